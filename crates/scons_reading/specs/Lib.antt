pub mod Beginning
pub mod Coming
pub mod Ends
pub mod Firsts
pub mod Graphs
pub mod Reads
pub mod Running
pub mod Sources
