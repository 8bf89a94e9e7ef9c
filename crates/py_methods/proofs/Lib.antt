pub mod Defaults
pub mod Extending
pub mod Letters
pub mod Listed
pub mod MadeTexts
pub mod ManyTexts
pub mod Pairs
pub mod Updates
