pub mod Causes
pub mod Events
pub mod Running
