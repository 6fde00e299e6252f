pub mod Trains
pub mod Sound
pub mod Places
pub mod Changes
