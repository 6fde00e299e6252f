pub mod Ends
pub mod TrainLaws
pub mod LinkLaws
pub mod NameLaws
pub mod TellingLaws
pub mod BuiltLaws
