use Rattle.std.proofs.Common.{◌≡◌, length}
use Rattle.bm_shards.specs.ShardWork.{AreNew}
use Rattle.bm_shards.proofs.all_shards.new_shards.Given as goal

abbrev pub invariant-loop-index : goal.invariant-loop-index
invariant-loop-index l = record {
  each : AreNew l.fn.config 0 l.shards.items;
  len : length l.shards.items ≡ l.index;
}
