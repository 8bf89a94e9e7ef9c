pub mod Arguments
pub mod Lookups
pub mod Stops
pub mod Stores
pub mod Walks
