pub mod Kept
pub mod Passed
pub mod Comes
pub mod Entered
pub mod Started
pub mod Told
pub mod Spared
