pub mod Calls
pub mod Streams
pub mod Memory
pub mod Reading
pub mod Tries
pub mod Known
