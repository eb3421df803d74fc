pub mod Index
pub mod Errno
pub mod Answer
pub mod Buffer
