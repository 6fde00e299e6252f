pub mod Report
pub mod Example
pub mod Tell
