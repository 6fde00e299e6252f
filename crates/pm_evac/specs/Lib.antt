pub mod Relocate
pub mod Steps
pub mod Noted
