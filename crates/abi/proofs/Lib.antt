pub mod AnswerLaws
pub mod OutcomeLaws
