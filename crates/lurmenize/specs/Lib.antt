pub mod Names
pub mod Version
