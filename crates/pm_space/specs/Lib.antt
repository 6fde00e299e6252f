pub mod Linked
pub mod Shown
pub mod KeptOnce
pub mod Counted
pub mod Quiet
pub mod Places
