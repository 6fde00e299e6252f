pub mod Rooms
pub mod Listed
pub mod Places
pub mod Blanks
pub mod Kept
pub mod Taken
pub mod Counts
