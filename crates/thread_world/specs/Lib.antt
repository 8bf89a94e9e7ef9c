pub mod Comes
pub mod Step
pub mod Means
pub mod Handed
pub mod Ends
pub mod New
