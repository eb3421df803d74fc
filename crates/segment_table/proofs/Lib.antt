pub mod ListLaws
pub mod ResultsLaws
pub mod SegmentsLaws
pub mod SlotsLaws
pub mod SoundLaws
pub mod OperatorLaws
pub mod LimitLaws
