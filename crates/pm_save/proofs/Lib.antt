pub mod ProgressLemmas
pub mod WriterLemmas
mod ListLemmas
mod RootLemmas
mod BeginLemmas
mod FrozenSlots
