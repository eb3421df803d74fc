pub mod Request
pub mod Answer
pub mod Show
pub mod Session
pub mod Internal
