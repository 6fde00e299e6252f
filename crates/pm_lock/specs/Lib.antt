pub mod Kept
pub mod Shown
pub mod Turns
pub mod Crew
