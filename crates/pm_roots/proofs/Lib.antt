pub mod Sorted
pub mod Views
pub mod Edits
pub mod Places
pub mod Calls
