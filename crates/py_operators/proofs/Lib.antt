pub mod Fillings
pub mod Grown
pub mod Lengths
pub mod TextLengths
