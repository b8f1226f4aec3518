use Rattle.std.proofs.Common.{◌≡◌, ◌≤◌, ◌++◌, length, vec_len, vec_capacity}
use Rattle.std.specs.List.{AllZip}
use Rattle.std.specs.Vec.Iter.{into_iter_items}
use Rattle.bm_crew.specs.Work.{IsResultOf}
use Rattle.bm_crew.proofs.crew.work_in_turn.Given as goal

abbrev pub invariant-loop-shard : goal.invariant-loop-shard
invariant-loop-shard g l =
    (l.fn.items.items ≡ l.yielded ++ into_iter_items l.shard-iterator)
    × AllZip (IsResultOf (goal.J-post g l.job)) l.yielded l.results.items
    × (vec_len l.results ≤ length l.yielded)
    × (vec_len l.fn.items ≤ vec_capacity l.results)
