pub mod Counting
pub mod Left
pub mod Ordered
pub mod Ended
