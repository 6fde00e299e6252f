pub mod Texts
pub mod Drawn
pub mod Short
pub mod Counts
pub mod Turns
pub mod Names
