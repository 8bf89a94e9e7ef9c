pub mod Seen
pub mod Names
pub mod Reaching
pub mod Knowing
pub mod Needing
pub mod Deciding
pub mod Visiting
pub mod Single
pub mod Waiting
pub mod Taking
pub mod Stepping
pub mod Beginning
pub mod Growth
pub mod Scanning
pub mod Resting
pub mod Holding
pub mod Running
pub mod Wanting
mod SampleSteps
mod Samples
