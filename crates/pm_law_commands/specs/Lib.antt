pub mod Row
pub mod Served
