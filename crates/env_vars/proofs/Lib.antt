pub mod ChainLemmas
pub mod PairLemmas
pub mod VarLemmas
pub mod GivenTexts
pub mod Lengths
pub mod GrownLemmas
