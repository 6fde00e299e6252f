pub mod Packing
pub mod Firsts
pub mod Parts
pub mod Restored
