pub mod Traces
pub mod Wrong
