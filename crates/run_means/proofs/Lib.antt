pub mod Lists
pub mod Standing
pub mod Own
pub mod Clearing
pub mod Carrying
pub mod Keeping
pub mod Launching
pub mod Ending
pub mod Settled
mod Samples
