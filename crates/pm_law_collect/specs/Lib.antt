pub mod Changes
pub mod Moves
pub mod Ways
pub mod Work
pub mod Traces
