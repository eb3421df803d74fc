pub mod ChainLaws
pub mod HashLaws
pub mod LinesLaws
pub mod LookupLaws
pub mod TableLaws
pub mod WalkLaws
