pub mod Bindings
pub mod Sound
pub mod Kept
