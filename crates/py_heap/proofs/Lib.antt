pub mod Charges
pub mod Copies
pub mod Counts
pub mod Grown
pub mod Rooms
pub mod Turns
