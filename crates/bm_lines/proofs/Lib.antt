-- Lemmas on lines: reading a line, writing one, and reading it back.
pub mod CallOfLemmas
pub mod ListLemmas
pub mod OpLemmas
pub mod TextLemmas
pub mod PlainText
pub mod Sound
pub mod CallTextData
pub mod CallTextLemmas
pub mod CallTextSound
pub mod CallTextRead
pub mod CallTextBack
pub mod ReadOps
pub mod CanonicalLemmas
