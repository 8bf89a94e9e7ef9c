pub mod Searching
pub mod Stepping
pub mod Rows
pub mod Matching
pub mod Above
pub mod Noted
pub mod Globbing
