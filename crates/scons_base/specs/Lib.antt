pub mod Normal
pub mod Parts
pub mod PathFaults
pub mod Resolve
pub mod Rising
pub mod Runs
