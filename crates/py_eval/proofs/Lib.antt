pub mod Answered
pub mod Beginning
pub mod Firsts
pub mod Giving
pub mod Halting
pub mod Over
pub mod Questions
pub mod Tasks
