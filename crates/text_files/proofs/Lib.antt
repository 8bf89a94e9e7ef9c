pub mod ReplaceLemmas
pub mod PairLemmas
