pub mod RankLemmas
pub mod SunkLemmas
pub mod Begins
pub mod Stays
pub mod Reached
pub mod Many
