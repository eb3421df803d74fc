pub mod Body
pub mod Tuples
pub mod Codec
