pub mod Course
pub mod Told
pub mod Working
pub mod Acting
pub mod Seen
pub mod Copies
pub mod Clauses
