pub mod Answer
pub mod Caller
pub mod Entry
pub mod Flag
pub mod Outcome
pub mod Request
pub mod Style
