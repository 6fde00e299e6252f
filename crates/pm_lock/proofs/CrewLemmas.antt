pub mod Lasting
pub mod Whole
