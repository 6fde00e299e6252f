pub mod PackingLemmas
pub mod FirstLemmas
pub mod SearchLemmas
pub mod PartLemmas
pub mod BeginLemmas
pub mod RestoreLemmas
pub mod NewStores
pub mod LaidLemmas
