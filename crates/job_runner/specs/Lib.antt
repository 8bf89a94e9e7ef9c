pub mod Seats
pub mod Replay
pub mod Slips
pub mod Lists
pub mod Rooms
pub mod Answers
pub mod Outs
