pub mod Stages
pub mod Ends
pub mod Alone
pub mod Causes
pub mod Journals
pub mod Disks
pub mod Tallies
pub mod Wrote
