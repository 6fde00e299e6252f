pub mod Dump
pub mod Spelled
pub mod Sound
pub mod Faults
pub mod Reading
pub mod Read
pub mod Answers
pub mod Lent
