pub mod Remembered
pub mod Indexed
pub mod Gathered
pub mod Listed
pub mod Kept
pub mod Entries
pub mod Grouped
