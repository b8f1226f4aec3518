use Rattle.std.proofs.Common.{◌≡◌}
use Rattle.bm_shards.proofs.round_parts.find_round.Given as goal

abbrev pub invariant-loop-wishes : goal.invariant-loop-wishes
invariant-loop-wishes g l = l.shards.items ≡ l.initial.shards.items
