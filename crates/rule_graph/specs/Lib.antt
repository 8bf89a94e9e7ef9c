pub mod Rules
pub mod Aliases
pub mod Graphs
