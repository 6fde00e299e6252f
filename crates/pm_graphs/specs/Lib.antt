pub mod Settled
pub mod Reading
pub mod Linking
pub mod Reopening
