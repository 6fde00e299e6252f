pub mod Missed
pub mod FuseDisk
pub mod FuseDiskLaws
