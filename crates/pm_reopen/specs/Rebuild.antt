pub mod Lists
pub mod Linking
pub mod Naming
pub mod Trains
pub mod Remembering
