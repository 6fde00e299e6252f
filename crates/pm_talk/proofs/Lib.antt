pub mod Going
pub mod Wiring
pub mod Making
pub mod Turning
pub mod Saying
pub mod Commanding
pub mod Finishing
