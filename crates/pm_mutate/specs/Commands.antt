pub mod Births
pub mod Closing
pub mod Picked
