pub mod WorksLemmas
pub mod Standing
pub mod Bounding
pub mod Telling
pub mod Histories
pub mod Past
pub mod EventsLemmas
pub mod Crosses
