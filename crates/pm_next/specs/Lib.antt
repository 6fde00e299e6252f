pub mod Seen
pub mod Sought
pub mod Ways
