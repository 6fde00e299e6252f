pub mod Clients
pub mod Ended
pub mod Ordered
