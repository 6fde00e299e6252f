pub mod Cars
pub mod Entries
pub mod Rows
pub mod Sums
