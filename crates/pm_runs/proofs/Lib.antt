pub mod ThreadsLemmas
pub mod TrialLemmas
pub mod EndsLemmas
pub mod Ran
pub mod Stores
pub mod Openings
pub mod YoungLemmas
