pub mod Told
pub mod Digested
pub mod Trials
