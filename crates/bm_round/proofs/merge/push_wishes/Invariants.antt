use Rattle.std.proofs.Common.{◌≡◌, ◌++◌, map, take}
use Rattle.bm_round.proofs.merge.push_wishes.Given as goal

abbrev pub invariant-loop-wish : goal.invariant-loop-wish
invariant-loop-wish l = map (λ w. w.now) l.all.items ≡ map (λ w. w.now) l.fn.all.items ++ take l.wish-index l.wishes
