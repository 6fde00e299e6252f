pub mod Kept
pub mod Following
pub mod Opening
pub mod Images
pub mod Splitting
pub mod Stored
