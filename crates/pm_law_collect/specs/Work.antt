pub mod Raises
pub mod Names
