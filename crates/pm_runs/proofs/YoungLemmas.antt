pub mod Counted
pub mod Read
pub mod Ended
pub mod Stores
