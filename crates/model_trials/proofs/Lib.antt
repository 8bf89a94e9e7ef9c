mod Walks
mod Rules
pub mod Visiting
pub mod Naming
pub mod Leading
pub mod Waiting
pub mod Sameness
pub mod Finding
pub mod Dues
pub mod Makings
