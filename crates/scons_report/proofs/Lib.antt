mod CleanEnters
mod CleanSteps
mod WalkEnds
mod Cleaning
mod Drying
mod Ending
pub mod Found
mod Foreseeing
mod Going
mod Finished
mod Fronting
mod Leftover
mod Judging
mod Ringing
mod Listing
mod Showing
mod Trees
mod TreePrints
