pub mod Maps
pub mod Cycle
pub mod Again
pub mod Futile
pub mod TooEarly
