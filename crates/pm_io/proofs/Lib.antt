pub mod TakenSoFar
pub mod WrittenSoFar
pub mod TriesLemmas
