pub mod InputLaws
pub mod InputExamples
