pub mod Keeping
pub mod Engines
pub mod Turning
pub mod Laws
pub mod Crosses
pub mod CrewLemmas
