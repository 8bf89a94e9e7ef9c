pub mod Bytes
pub mod White
pub mod Words
pub mod Parts
pub mod References
pub mod Readings
pub mod Views
pub mod Alone
