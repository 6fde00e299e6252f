pub mod Births
pub mod Commands
pub mod Acts
pub mod Young
