pub mod Extending
pub mod Lending
pub mod Setting
pub mod Tables
