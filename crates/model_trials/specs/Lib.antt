-- Definitions that the contracts of the slow functions cite.
pub mod Plain
pub mod Orders
pub mod Loops
pub mod Cyclic
pub mod Staling
pub mod Making
