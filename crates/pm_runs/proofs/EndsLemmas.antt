pub mod Parts
pub mod Tallied
pub mod Counted
pub mod Opened
pub mod Scripts
pub mod Unread
pub mod Faults
