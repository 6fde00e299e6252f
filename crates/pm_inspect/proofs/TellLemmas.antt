pub mod Counted
pub mod Renumbered
pub mod OneReport
