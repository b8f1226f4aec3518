-- Lemmas on answers about losses: the findings, and their text.
pub mod WholeAnswers
pub mod ShownRows
pub mod AppendedTexts
