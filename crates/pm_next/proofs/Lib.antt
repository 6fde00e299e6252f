pub mod WaysLemmas
pub mod Searches
pub mod Lowest
pub mod Drained
pub mod Fixes
pub mod Beyond
pub mod Skips
