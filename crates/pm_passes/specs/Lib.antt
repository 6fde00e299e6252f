pub mod Codes
pub mod Numbering
pub mod Views
pub mod Rule
pub mod Steps
pub mod Passes
