pub mod Digits
pub mod WordLists
pub mod Boundaries
pub mod Places
pub mod Whites
pub mod Ends
