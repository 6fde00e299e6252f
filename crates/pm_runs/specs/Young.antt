pub mod Journals
pub mod Tallies
pub mod Engines
pub mod Runs
