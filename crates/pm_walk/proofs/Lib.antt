pub mod Lists
pub mod Growing
pub mod Steps
pub mod Heaps
pub mod Texts
pub mod Broad
pub mod PathsLemmas
pub mod ToldLines
