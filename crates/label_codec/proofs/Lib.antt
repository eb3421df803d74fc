pub mod NumberLaws
pub mod BodyLaws
pub mod BodyLoops
pub mod TupleBytesLaws
