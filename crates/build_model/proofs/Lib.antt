pub mod Lists
pub mod Whole
pub mod Agree
pub mod Heights
pub mod Ready
pub mod Runs
pub mod Made
pub mod Clean
pub mod Starting
pub mod Placed
pub mod Headline
pub mod Staying
pub mod Resting
mod Samples
mod SampleOrders
mod SampleLoops
mod SampleCourses
mod Examples
pub mod GoingOn
pub mod Ordering
pub mod Alike
pub mod OneJob
pub mod Stopped
pub mod TakenOut
pub mod Waiting
pub mod Leaving
pub mod Histories
pub mod Ending
pub mod Scanning
