pub mod Agree
pub mod SweptSeen
pub mod SweepRow
pub mod FreedSeen
pub mod FreeRow
