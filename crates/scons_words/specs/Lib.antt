pub mod Numbers
pub mod Values
pub mod Switches
pub mod Arguments
pub mod Readings
pub mod Names
