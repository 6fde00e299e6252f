pub mod Beside
pub mod Parting
