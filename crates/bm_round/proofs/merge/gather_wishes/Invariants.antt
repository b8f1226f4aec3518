use Rattle.std.proofs.Common.{◌≡◌, map, take}
use Rattle.std.specs.List.{flat_map}
use Rattle.bm_round.proofs.merge.gather_wishes.Given as goal

abbrev pub invariant-loop-part : goal.invariant-loop-part
invariant-loop-part l = map (λ w. w.now) l.all.items ≡ flat_map (λ p. p.wishes) (take l.part-index l.parts)
