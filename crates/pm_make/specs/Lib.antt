pub mod Drawing
pub mod Made
pub mod Example
