mod Walks
pub mod WriteLemmas
pub mod ImageLemmas
pub mod ReplayLemmas
pub mod Steps
pub mod DiskSteps
pub mod CrashLemmas
pub mod RunLemmas
pub mod MadeLemmas
pub mod Crossing
pub mod FuseLemmas
