pub mod NotMade
pub mod Complete
pub mod Shipping
pub mod Performing
pub mod Restored
pub mod Programs
