use Rattle.std.proofs.Common.{◌≡◌, ℕ, take}
use Rattle.bm_base.specs.Words.{has, contains_key}
use Rattle.cluster_lost.proofs.set_of.Given as goal

abbrev pub invariant-loop-block : goal.invariant-loop-block
invariant-loop-block l = (b : ℕ) → contains_key l.set.map b ≡ has (take l.block-index l.blocks) b
