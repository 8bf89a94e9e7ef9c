pub mod Ways
pub mod Clears
pub mod Turns
pub mod Laws
pub mod Examples
