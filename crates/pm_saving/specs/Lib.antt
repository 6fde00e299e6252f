pub mod Progress
pub mod Paging
pub mod Beginning
pub mod Tied
pub mod Serving
pub mod Images
pub mod Events
pub mod Bounds
