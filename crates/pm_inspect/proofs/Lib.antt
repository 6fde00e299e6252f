pub mod Places
pub mod Linked
pub mod Examples
pub mod TellLemmas
