pub mod MoveSeen
pub mod PutAway
pub mod MoveNews
pub mod MoveRow
pub mod PutRow
pub mod MoveRows
pub mod Once
