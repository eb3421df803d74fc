pub mod Subject
pub mod Write
pub mod Read
pub mod Numbers
pub mod Internal
