-- Lemmas on lines of fsck: cuts of a text, and lists of replicas.
pub mod CutLemmas
pub mod ListLemmas
