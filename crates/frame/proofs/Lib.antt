pub mod FrameLaws
pub mod FrameLoops
