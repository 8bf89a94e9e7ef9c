pub mod Flats
pub mod Loops
pub mod Naming
pub mod Numbering
pub mod Rows
pub mod Standing
pub mod Tails
