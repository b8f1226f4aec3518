use Rattle.std.proofs.Common.{◌≡◌, take}
use Rattle.std.specs.List.{flat_map}
use Rattle.bm_base.specs.Words.{Cluster, missing_blocks}
use Rattle.bm_shards.specs.Whole.{AreUpToDate}
use Rattle.bm_shards.proofs.all_shards.AllShards.missing.Given as goal

abbrev pub invariant-loop-one : goal.invariant-loop-one
invariant-loop-one l = (C : Cluster) → AreUpToDate C l.one-items → l.all.items ≡ flat_map (λ s. missing_blocks C s.1.holdings) (take l.one-index l.one-items)
