pub mod Range
pub mod Tuple
