pub mod Dicts
pub mod Given
pub mod Heap
pub mod Keys
pub mod Many
pub mod Units
pub mod Values
