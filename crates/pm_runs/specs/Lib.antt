pub mod Threads
pub mod Trial
pub mod Ends
pub mod Wrote
pub mod Engines
pub mod Runs
pub mod Young
