pub mod LineLemmas
pub mod PatternLemmas
