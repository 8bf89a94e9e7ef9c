pub mod Order
pub mod Reasons
pub mod Texts
pub mod Laws
pub mod Rules
