pub mod Changed
pub mod Named
pub mod Moves
pub mod Planned
