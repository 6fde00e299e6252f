pub mod Rebuild
pub mod Making
pub mod Listing
pub mod Opening
pub mod Refused
