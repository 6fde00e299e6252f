pub mod Spelling
pub mod Reading
pub mod Room
pub mod Headers
