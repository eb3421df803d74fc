pub mod Theorem
pub mod BoardExamples
