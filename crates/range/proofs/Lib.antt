pub mod RangeLaws
pub mod TupleLaws
pub mod RangeExamples
