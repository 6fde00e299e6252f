pub mod BehindLaws
pub mod Lists
pub mod PackedLaws
