pub mod Newlines
pub mod Parts
pub mod HeardSoFar
pub mod Answers
pub mod AskedLines
