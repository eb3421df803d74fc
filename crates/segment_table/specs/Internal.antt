pub mod Owners
pub mod SoundParts
pub mod TableParts
