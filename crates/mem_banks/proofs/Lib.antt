pub mod Splices
pub mod Images
pub mod Cuts
pub mod Picks
