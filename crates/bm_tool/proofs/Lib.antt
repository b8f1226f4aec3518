-- Lemmas on options: their texts, their standard values and their numbers.
pub mod OptionTexts
pub mod OptionRows
pub mod OptionNumbers
