pub mod Graph
pub mod Texts
pub mod Back
pub mod Shortest
