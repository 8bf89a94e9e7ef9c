pub mod Firsts
pub mod Below
pub mod Changing
pub mod Due
pub mod Leasts
pub mod Ruling
