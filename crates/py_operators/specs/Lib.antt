pub mod Arithmetic
pub mod Binary
pub mod Indexing
pub mod Joining
pub mod Places
pub mod Remainders
pub mod Slices
