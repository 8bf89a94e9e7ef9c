pub mod Counting
pub mod RowTurns
pub mod Zipping
