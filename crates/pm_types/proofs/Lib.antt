pub mod Results
pub mod Fronts
pub mod Mapped
pub mod Shown
pub mod NameLemmas
pub mod Orders
pub mod Hashed
mod Fills
pub mod Lent
