pub mod Course
pub mod Count
