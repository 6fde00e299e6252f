pub mod Behind
pub mod Packed
