use Rattle.std.proofs.Common.{◌≡◌, take}
use Rattle.std.specs.List.{flat_map}
use Rattle.bm_base.specs.Machine.Queries.{blocks_on}
use Rattle.bm_shards.proofs.all_shards.AllShards.blocks_on.Given as goal

abbrev pub invariant-loop-one : goal.invariant-loop-one
invariant-loop-one l = l.all.items ≡ flat_map (λ s. blocks_on s.1.holdings l.storage) (take l.one-index l.one-items)
