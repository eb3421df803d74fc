pub mod TestLaws
pub mod PartLaws
pub mod CategoryLaws
pub mod CallLaws
