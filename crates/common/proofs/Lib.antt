pub mod BoolLaws
pub mod IndexLaws
pub mod BytesLaws
pub mod ChainLaws
pub mod SearchLaws
pub mod AnswerLaws
pub mod BufferLaws
