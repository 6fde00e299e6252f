mod Homes
pub mod Order
pub mod Numbers
pub mod Cars
pub mod Filling
pub mod Kept
pub mod Found
