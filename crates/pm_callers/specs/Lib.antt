pub mod Tasks
pub mod Faults
pub mod Works
pub mod Runs
