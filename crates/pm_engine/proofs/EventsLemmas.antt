pub mod Journals
pub mod Answering
pub mod Going
pub mod Made
pub mod Lines
