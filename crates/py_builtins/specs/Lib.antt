pub mod Builtins
pub mod Collections
pub mod Numbers
pub mod Rows
pub mod Sorted
pub mod Takes
