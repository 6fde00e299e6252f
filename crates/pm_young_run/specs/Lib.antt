pub mod Asked
pub mod Entered
pub mod Stepping
pub mod Writing
pub mod Running
