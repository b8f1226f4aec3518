-- Lemmas on loading: the head of a text, the calls for a cluster, and the loaded cluster.
pub mod MakeLemmas
pub mod HeadLemmas
pub mod LoadLemmas
