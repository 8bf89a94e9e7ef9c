pub mod Events
pub mod Histories
