pub mod Finding
pub mod Lengths
pub mod Lines
pub mod Ends
pub mod Once
pub mod Stops
