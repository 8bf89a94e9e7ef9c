pub mod Squeezing
pub mod Showing
pub mod Sizes
pub mod LineCuts
pub mod Hiding
pub mod Joining
pub mod Blanks
pub mod Counting
