pub mod Entry
pub mod Codec
pub mod Internal
