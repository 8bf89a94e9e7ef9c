mod Beginning
mod Candidates
mod Copying
mod Growth
mod Knowing
pub mod Looking
pub mod Left
pub mod Marking
mod Noting
mod Places
pub mod Reading
mod Presence
mod RuleAt
mod Scans
mod Searching
mod Seeing
mod Testing
pub mod Truths
