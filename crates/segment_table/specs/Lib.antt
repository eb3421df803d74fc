pub mod Segments
pub mod Slots
pub mod Limits
pub mod Sound
pub mod Replies
pub mod Operator
pub mod Internal
