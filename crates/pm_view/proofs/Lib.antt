pub mod Standing
pub mod Unnamed
