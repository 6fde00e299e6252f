pub mod Filled
pub mod Places
pub mod Found
pub mod Accepted
pub mod Copies
