pub mod Pieces
pub mod Forms
pub mod Lines
pub mod Inside
pub mod Steps
pub mod Parts
