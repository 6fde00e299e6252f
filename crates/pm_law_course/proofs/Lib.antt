pub mod Kept
pub mod Completing
pub mod Anchoring
pub mod Bearing
pub mod Counting
pub mod Opening
pub mod CountLemmas
