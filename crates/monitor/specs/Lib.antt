pub mod Monitor
pub mod Numbers
pub mod Internal
