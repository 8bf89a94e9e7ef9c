pub mod Calls
pub mod Dicts
pub mod Lists
pub mod Many
pub mod Methods
pub mod Names
pub mod TextMethods
