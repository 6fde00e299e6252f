pub mod Calls
pub mod Laws
pub mod Standing
pub mod Streams
pub mod Untold
