-- Setting the marks of a replica keeps those of all others.
use Rattle.std.proofs.Common.{◌≡◌, ◌≢◌, ℕ, List, [], ◌∷◌, eqb, cond, false, Option, Some, None, IsSome, refl, inl, inr, sym, ap, ◌∙◌}
use Rattle.std.specs.Option.{option_map, option_and_then}
use Rattle.std.proofs.lemmas.Bool.{cases_Bool, eqb-true, ne_eqb, false≢true}
use Rattle.bm_base.specs.declared.replica.Marks.{Marks}
use Rattle.bm_arena.specs.Triplets.{Block, change_block}
use Rattle.bm_arena.specs.Contents.{Contents, block_at, marks_at, find_marks, change_marks, with_marks, known_of}
use Rattle.bm_arena.proofs.ChangedBlock.{changed-here, changed-elsewhere}

-- the marks of one replica are set
module _ (a : Contents) (slot s : ℕ) (m : Marks) where
  abbrev pub set_at : Contents
  set_at = record a { blocks = change_block (with_marks s m) a.blocks slot }

  pub set-elsewhere : (other : ℕ) → other ≢ slot → block_at set_at other ≡ block_at a other
  set-elsewhere = changed-elsewhere a slot (with_marks s m)

  set-here : block_at set_at slot ≡ option_map (with_marks s m) (block_at a slot)
  set-here = changed-here a slot (with_marks s m)

  pub set-known : known_of (block_at set_at slot) ≡ known_of (block_at a slot)
  set-known = ap known_of set-here ∙ by (block_at a slot)
    where
      by : (o : Option Block) → known_of (option_map (with_marks s m) o) ≡ known_of o
      by None = refl
      by (Some b) = refl

  found_set : (rs : List (ℕ × Marks)) → IsSome (find_marks rs s) → find_marks (change_marks rs s m) s ≡ Some m
  found_set [] some = absurd (false≢true some)
  found_set (r ∷ rs) some =
      elim (cases_Bool (eqb r.0 s)) [ inl here ↦ rw (here, here) refl | inr other ↦ rw (other, other) (found_set rs (rw other at some)) ]

  found_other : (t : ℕ) → t ≢ s → (rs : List (ℕ × Marks)) → find_marks (change_marks rs s m) t ≡ find_marks rs t
  found_other t differs [] = refl
  found_other t differs (r ∷ rs) =
      elim (cases_Bool (eqb r.0 s)) [
        | inl here ↦
            let not_t : eqb r.0 t ≡ false = ne_eqb r.0 t (λ same. differs (sym same ∙ eqb-true r.0 s here)) in
            rw (here, not_t) refl
        | inr other ↦ rw other (ap (λ o. cond (eqb r.0 t) (Some r.1) o) (found_other t differs rs))
      ]

  pub set-marks : IsSome (marks_at a slot s) → marks_at set_at slot s ≡ Some m
  set-marks some = ap (λ o. option_and_then (λ (b : Block). find_marks b.replicas s) o) set-here ∙ by (block_at a slot) some
    where
      by : (o : Option Block) → IsSome (option_and_then (λ (b : Block). find_marks b.replicas s) o)
          → option_and_then (λ (b : Block). find_marks b.replicas s) (option_map (with_marks s m) o) ≡ Some m
      by None some = absurd (false≢true some)
      by (Some b) some = found_set b.replicas some

  pub set-others : (t : ℕ) → t ≢ s → marks_at set_at slot t ≡ marks_at a slot t
  set-others t differs = ap (λ o. option_and_then (λ (b : Block). find_marks b.replicas t) o) set-here ∙ by (block_at a slot)
    where
      by : (o : Option Block) → option_and_then (λ (b : Block). find_marks b.replicas t) (option_map (with_marks s m) o) ≡ option_and_then (λ (b : Block). find_marks b.replicas t) o
      by None = refl
      by (Some b) = found_other t differs b.replicas
