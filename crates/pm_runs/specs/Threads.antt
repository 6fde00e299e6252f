pub mod Ordered
pub mod Running
pub mod Together
