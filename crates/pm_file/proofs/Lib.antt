mod Images
mod Times
pub mod Crossing
