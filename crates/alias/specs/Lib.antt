pub mod Lines
pub mod Lookup
pub mod Table
pub mod Internal
