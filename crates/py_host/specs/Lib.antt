pub mod Calls
pub mod Extends
pub mod Lent
pub mod Meaning
pub mod Names
