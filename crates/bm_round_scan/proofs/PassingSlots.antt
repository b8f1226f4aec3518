-- The slots of a list that pass are those of its first part that pass, then those of its rest.
use Rattle.std.specs.Prelude.{◌≡◌, Bool, List, ◌++◌, map, filter}
use Rattle.std.proofs.Common.{sym, ap, ◌∙◌}
use Rattle.std.proofs.lemmas.List.{map-append}
use Rattle.std.proofs.lemmas.List.{append_assoc}
use Rattle.bm_base.proofs.ListTests.{filter_append}

pub passing_on : {X Y : Type 0} (f : X → Y) (p : X → Bool) (old new : List Y) (first rest all : List X) → new ≡ old ++ map f (filter p first) → all ≡ first ++ rest → new ++ map f (filter p rest) ≡ old ++ map f (filter p all)
passing_on f p old new first rest all more is =
    let whole = ap (map f) (ap (filter p) is ∙ filter_append p first rest) ∙ map-append f (filter p first) (filter p rest) in
    ap (λ ys. ys ++ map f (filter p rest)) more ∙ append_assoc old (map f (filter p first)) (map f (filter p rest)) ∙ ap (λ ys. old ++ ys) (sym whole)
