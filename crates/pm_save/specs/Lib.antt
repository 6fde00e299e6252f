pub mod Progress
pub mod Writer
pub mod Shown
pub mod Frozen
pub mod Thawed
