pub mod RelocateLemmas
pub mod Lawful
pub mod MoveRows
pub mod Chosen
