pub mod Words
pub mod Region
pub mod Label
pub mod Caller
pub mod Example
