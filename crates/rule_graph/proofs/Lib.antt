mod AliasLemmas
mod Positions
mod RuleLemmas
mod GraphLemmas
