pub mod CommandsLemmas
pub mod ShownBytes
pub mod Carried
pub mod Late
