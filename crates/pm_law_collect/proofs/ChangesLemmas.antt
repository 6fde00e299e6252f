pub mod Requeued
pub mod FixRow
pub mod Changing
