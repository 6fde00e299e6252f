pub mod Stores
pub mod Dumps
pub mod Commands
pub mod Needs
pub mod Ships
pub mod Program
