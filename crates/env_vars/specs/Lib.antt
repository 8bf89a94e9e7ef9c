pub mod Added
pub mod Envs
pub mod Given
pub mod Initial
pub mod Names
pub mod Vars
