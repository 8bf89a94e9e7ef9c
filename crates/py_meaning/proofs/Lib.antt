pub mod Binding
pub mod Counting
pub mod One
pub mod Simulating
