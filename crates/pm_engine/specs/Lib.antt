pub mod Works
pub mod Sound
pub mod History
pub mod Shown
pub mod Calls
pub mod Events
