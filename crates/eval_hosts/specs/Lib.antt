pub mod Laws
pub mod Printing
pub mod Refusals
pub mod Replying
pub mod Texts
