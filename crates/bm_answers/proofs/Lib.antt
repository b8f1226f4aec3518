-- Lemmas on answers: how a line asks for a call, and which answers are out of memory.
mod AskedLemmas
mod NoMemory
