pub mod Past
pub mod AsStore
pub mod Picks
