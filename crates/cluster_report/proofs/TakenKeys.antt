-- The first n keys of a map are all its keys, if the map has at most n.
use Rattle.std.proofs.Common.{◌≡◌, ℕ, ◌≤◌, take, arith}
use Rattle.std.proofs.lemmas.List.{take_all, length-map}
use Rattle.bm_base.specs.Maps.Map.{Order, Map, keys, len, entries}

-- all are taken
pub take_keys : {K X : Type 0} {o : Order K} (m : Map o X) (i : ℕ) → len m ≤ i → take i (keys m) ≡ keys m
unfolding keys len
take_keys m i few = take_all i _ (omega (arith, length-map (entries m) (λ e. e.0)))
