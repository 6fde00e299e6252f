pub mod FreeNumbers
pub mod Made
pub mod Emptying
pub mod RegisterRoom
pub mod Born
