pub mod Examples
pub mod Storing
pub mod Stood
pub mod Walks
pub mod Layout
