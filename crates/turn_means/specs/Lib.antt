pub mod Standing
pub mod Writing
pub mod Laws
pub mod Recording
pub mod Safety
