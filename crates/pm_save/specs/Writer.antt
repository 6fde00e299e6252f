pub mod KeptOnce
pub mod Shown
pub mod Planned
pub mod Steps
pub mod Settling
pub mod Runs
