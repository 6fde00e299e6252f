pub mod Values
pub mod Trains
pub mod Bounds
pub mod Compared
pub mod Rows
