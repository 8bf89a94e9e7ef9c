pub mod Same
pub mod Replays
pub mod Places
pub mod Found
pub mod Own
