pub mod Asking
pub mod Going
pub mod Calls
pub mod Lasting
pub mod Halting
pub mod Entering
