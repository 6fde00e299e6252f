pub mod Views
pub mod Fields
pub mod Naming
pub mod Swept
pub mod Carried
pub mod Places
pub mod Planning
