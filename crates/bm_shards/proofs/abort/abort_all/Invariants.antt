use Rattle.std.specs.List.{AllZip, AllWithin}
use Rattle.bm_shards.specs.ShardWork.{IsSame, HasGivenUp}
use Rattle.bm_shards.proofs.abort.abort_all.Given as goal

abbrev pub invariant-loop-one : goal.invariant-loop-one
invariant-loop-one l = record {
  each : AllZip IsSame l.fn.shards.items l.one-items;
  given_up : AllWithin (λ s. HasGivenUp s.1) l.one-items 0 l.one-index;
}
