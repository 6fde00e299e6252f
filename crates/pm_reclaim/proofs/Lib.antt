pub mod WatchLines
pub mod Quiet
pub mod Sole
pub mod Making
pub mod Phases
