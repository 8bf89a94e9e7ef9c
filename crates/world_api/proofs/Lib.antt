pub mod Looking
pub mod Moments
pub mod PrintRuns
