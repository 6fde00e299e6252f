pub mod Handles
pub mod Sound
