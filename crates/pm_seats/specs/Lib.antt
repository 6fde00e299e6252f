pub mod Callers
pub mod Kept
pub mod Shown
pub mod Events
pub mod Sharing
pub mod Turns
