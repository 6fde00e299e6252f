pub mod Walked
pub mod Lines
pub mod Told
pub mod Paths
