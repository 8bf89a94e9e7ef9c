pub mod ArgumentTurns
pub mod Forms
pub mod Frames
pub mod LocalTurns
pub mod NamesSet
pub mod Trees
pub mod Walks
