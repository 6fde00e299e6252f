pub mod Talk
pub mod FirstLine
pub mod Buffers
pub mod Hearing
pub mod Memory
pub mod Questions
pub mod Spelled
