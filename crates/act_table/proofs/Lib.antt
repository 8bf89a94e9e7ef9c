pub mod Filled
pub mod SameContents
pub mod FileCounts
