mod Calls
mod Sums
pub mod Passes
pub mod Steps
