pub mod Links
pub mod Choices
pub mod Homes
pub mod Only
