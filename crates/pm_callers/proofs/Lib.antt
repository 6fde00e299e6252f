pub mod Worst
pub mod Logs
pub mod Stepping
pub mod Meeting
pub mod Asking
pub mod Closing
pub mod Passing
