pub mod Shown
pub mod KeySets
pub mod Tables
pub mod Passed
