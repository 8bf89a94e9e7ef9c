pub mod Lines
pub mod Includes
pub mod Patterns
pub mod Suffixes
