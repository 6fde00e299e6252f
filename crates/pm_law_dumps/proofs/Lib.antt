pub mod Ranged
pub mod Again
