mod Booking
mod Settling
mod Scanning
mod Alongs
mod Clearing
pub mod Holding
pub mod Goings
pub mod Counting
pub mod Causing
pub mod Outs
pub mod Sites
pub mod Taking
mod Lending
mod Telling
mod EndingOn
mod Starting
mod Choosing
mod Presenting
mod Launching
mod Leaving
mod Outsetting
mod Finishing
pub mod Noting
mod Skipping
mod Builds
mod Watching
mod Safely
mod Stopping
mod Turning
mod Ended
mod Begun
pub mod Deciding
mod Allowing
mod Stopped
mod Starts
mod Remembering
pub mod Reasons
mod Explaining
mod Valid
mod Texts
mod Printing
mod Reasoned
mod StartPrinting
mod BuildPrinting
mod Reporting
mod StepTexts
mod Endings
mod Unrecorded
mod Unmade
mod Forgetting
mod Faulted
mod Unstarted
mod Reported
mod Rings
