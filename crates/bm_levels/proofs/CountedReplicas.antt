-- Each replica at a slot that passes a test adds one to the number of those that pass.
use Rattle.std.specs.Prelude.{◌≡◌, ◌+◌, ℕ, Bool, true, false, List, ◌∷◌, map, filter, length}
use Rattle.std.proofs.Common.{cond, ap, ◌∙◌, arith}
use Rattle.bm_base.specs.declared.replica.Marks.{Marks}
use Rattle.bm_levels.specs.Status.{storages_at}

module _ (p : ℕ → Marks → Bool) (rs rest : List (ℕ × Marks)) (r : ℕ × Marks) (e : rs ≡ r ∷ rest) where
  abbrev counted : Bool → ℕ
  counted b = length (map (λ (r : ℕ × Marks). r.0) (cond b (r ∷ filter (λ (r : ℕ × Marks). p r.0 r.1) rest) (filter (λ (r : ℕ × Marks). p r.0 r.1) rest)))

  pub counted_more : p r.0 r.1 ≡ true → length (storages_at p rs) ≡ length (storages_at p rest) + 1
  counted_more pass = ap (λ l. length (storages_at p l)) e ∙ ap counted pass ∙ omega arith

  pub counted_same : p r.0 r.1 ≡ false → length (storages_at p rs) ≡ length (storages_at p rest)
  counted_same fail = ap (λ l. length (storages_at p l)) e ∙ ap counted fail
