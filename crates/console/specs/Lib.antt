pub mod Lines
pub mod Command
pub mod Format
pub mod Internal
