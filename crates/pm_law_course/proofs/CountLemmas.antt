pub mod Once
pub mod Identities
pub mod Spaces
pub mod Trains
pub mod Few
pub mod Watched
