pub mod Gathering
pub mod ReplyLines
pub mod WatchLines
