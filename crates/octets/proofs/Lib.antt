pub mod ByteLaws
pub mod OctetsExamples
pub mod LineLaws
