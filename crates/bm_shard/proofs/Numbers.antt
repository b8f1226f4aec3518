-- A number is among those of an arena exactly if it has an entry.
use Rattle.std.proofs.Common.{◌≡◌, ℕ, Bool, true, false, cond, List, [], ◌∷◌, map, Some, refl, inl, inr, sym, ◌∙◌}
use Rattle.std.specs.Prelude.{nat_eq, IsSome, ◌==◌}
use Rattle.std.specs.Map.{lookup}
use Rattle.std.proofs.lemmas.Bool.{false≢true, eqb-true, eq-eqb}
use Rattle.bm_maps.specs.SlotLists.{IsMember}
use Rattle.bm_arena.specs.Contents.{Contents, slot_of}
use Rattle.bm_shard.specs.Inside.{numbers_of}

found_among : (b : ℕ) (ps : List (ℕ × ℕ)) → IsSome (lookup (nat_eq b) ps) → IsMember b (map (λ (p : ℕ × ℕ). p.0) ps)
found_among b [] some = absurd (false≢true some)
found_among b (p ∷ ps) some = by (b == p.0) refl some (found_among b ps)
  where
    by : (t : Bool) → (b == p.0) ≡ t → IsSome (cond t (Some p.1) (lookup (nat_eq b) ps)) → (IsSome (lookup (nat_eq b) ps) → IsMember b (map (λ (q : ℕ × ℕ). q.0) ps)) → IsMember b (p.0 ∷ map (λ (q : ℕ × ℕ). q.0) ps)
    by true e s rest = inl (eqb-true b p.0 e)
    by false e s rest = inr (rest s)

pub entered : (a : Contents) (b : ℕ) → IsSome (slot_of a b) → IsMember b (numbers_of a)
entered a b some = found_among b a.ids some

among_found : (b : ℕ) (ps : List (ℕ × ℕ)) → IsMember b (map (λ (p : ℕ × ℕ). p.0) ps) → IsSome (lookup (nat_eq b) ps)
among_found b [] h = absurd h
among_found b (p ∷ ps) h = by (b == p.0) refl h (among_found b ps)
  where
    by : (t : Bool) → (b == p.0) ≡ t → IsMember b (p.0 ∷ map (λ (q : ℕ × ℕ). q.0) ps) → (IsMember b (map (λ (q : ℕ × ℕ). q.0) ps) → IsSome (lookup (nat_eq b) ps)) → IsSome (cond t (Some p.1) (lookup (nat_eq b) ps))
    by true e s rest = refl
    by false e (inl same) rest = absurd (false≢true (sym e ∙ eq-eqb b p.0 same))
    by false e (inr there) rest = rest there

pub has_entry : (a : Contents) (b : ℕ) → IsMember b (numbers_of a) → IsSome (slot_of a b)
has_entry a b h = among_found b a.ids h
