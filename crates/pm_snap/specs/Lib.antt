pub mod Snapped
pub mod Freed
pub mod Kept
pub mod Lending
