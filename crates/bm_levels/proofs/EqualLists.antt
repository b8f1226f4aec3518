-- Lists with the same members, each once, have the same length.
use Rattle.std.specs.Prelude.{◌≡◌, ℕ, Bool, true, false, ◌||◌, ◌==◌, List, [], ◌∷◌, length, map, filter, Some, if◌then◌else◌}
use Rattle.std.specs.Option.{option_map_or}
use Rattle.std.proofs.Common.{cond, refl, sym, ap, subst, ◌∙◌, arith, inl, inr, ◌⊎◌}
use Rattle.std.proofs.lemmas.Bool.{eqb-true, eq-eqb, cases_Bool, true≢false, or_right, or_parts}
use Rattle.bm_base.specs.declared.replica.Marks.{Marks}
use Rattle.bm_base.specs.Maps.Lists.{has, has_repeats}
use Rattle.bm_maps.specs.SlotLists.{IsMember, Distinct, without}
use Rattle.bm_maps.proofs.SlotLists.{IsMember-without, IsMember-without_other, Distinct-without, length-without, without-gone}
use Rattle.bm_arena.specs.Contents.{find_marks}
use Rattle.bm_levels.specs.Status.{storages_at}

pub same_length : (xs ys : List ℕ) → Distinct xs → Distinct ys → ((z : ℕ) → IsMember z xs → IsMember z ys) → ((z : ℕ) → IsMember z ys → IsMember z xs) → length xs ≡ length ys
same_length [] [] d e f g = refl
same_length [] (y ∷ ys) d e f g = absurd (g y (inl refl))
same_length (x ∷ xs) ys d e f g =
    let there = f x (inl refl) in
    let rest = same_length xs (without x ys) d.1 (Distinct-without x ys e)
    (λ z h. IsMember-without_other x z ys (f z (inr h)) (λ same. d.0 (let P : ℕ → Type 0 = λ w. IsMember w xs in subst P same h)))
    (λ z h. elim (g z (IsMember-without x z ys h)) [
      | inl same ↦ absurd (without-gone x ys e (let P : ℕ → Type 0 = λ w. IsMember w (without x ys) in subst P same h))
      | inr later ↦ later
    ]) in
    omega (arith, rest, length-without x ys there)

pub has_among : (xs : List ℕ) (x : ℕ) → has xs x ≡ true → IsMember x xs
has_among [] x e = cc
has_among (y ∷ ys) x e =
    elim (y == x) as (λ b. (y == x) ≡ b → (b || has ys x) ≡ true → IsMember x (y ∷ ys)) [
      | true ↦ λ t _. inl (sym (eqb-true y x t))
      | false ↦ λ _ rest. inr (has_among ys x rest)
    ] refl e

pub among_has : (xs : List ℕ) (x : ℕ) → IsMember x xs → has xs x ≡ true
among_has [] x h = absurd h
among_has (y ∷ ys) x h = elim h [ inl same ↦ ap (λ b. b || has ys x) (eq-eqb y x (sym same)) | inr later ↦ or_right (y == x) (has ys x) (among_has ys x later) ]

pub once_distinct : (xs : List ℕ) → has_repeats xs ≡ false → Distinct xs
once_distinct [] e = tt
once_distinct (x ∷ xs) e =
    let h = or_parts (has xs x) (has_repeats xs) e in
    (λ there. true≢false (sym (among_has xs x there) ∙ h.0), once_distinct xs h.1)

abbrev keys_at : List (ℕ × Marks) → List ℕ
keys_at rs = map (λ (r : ℕ × Marks). r.0) rs

module _ (p : ℕ → Marks → Bool) where
  -- the storages of the replicas that pass are storages of the replicas
  pub passing_listed : (rs : List (ℕ × Marks)) (z : ℕ) → IsMember z (storages_at p rs) → IsMember z (keys_at rs)
  passing_listed [] z h = h
  passing_listed (r ∷ rs) z h =
      elim (p r.0 r.1) as (λ b. IsMember z (map (λ (r : ℕ × Marks). r.0) (cond b (r ∷ filter (λ r. p r.0 r.1) rs) (filter (λ r. p r.0 r.1) rs))) → (z ≡ r.0) ⊎ IsMember z (keys_at rs)) [
        | true ↦ λ g. elim g [ inl same ↦ inl same | inr later ↦ inr (passing_listed rs z later) ]
        | false ↦ λ g. inr (passing_listed rs z g)
      ] h

  pub passing_distinct : (rs : List (ℕ × Marks)) → Distinct (keys_at rs) → Distinct (storages_at p rs)
  passing_distinct [] d = d
  passing_distinct (r ∷ rs) d =
      elim (p r.0 r.1) as (λ b. Distinct (map (λ (r : ℕ × Marks). r.0) (cond b (r ∷ filter (λ r. p r.0 r.1) rs) (filter (λ r. p r.0 r.1) rs)))) [
        | true ↦ (λ h. d.0 (passing_listed rs r.0 h), passing_distinct rs d.1)
        | false ↦ passing_distinct rs d.1
      ]

  -- a storage is in the list exactly if its replica passes
  pub passing_found : (rs : List (ℕ × Marks)) → Distinct (keys_at rs) → (s : ℕ) → has (storages_at p rs) s ≡ option_map_or (p s) (find_marks rs s) false
  passing_found [] d s = refl
  passing_found (r ∷ rs) d s = by (r.0 == s) refl (passing_found rs d.1 s)
    where
      by : (c : Bool) → (r.0 == s) ≡ c → has (storages_at p rs) s ≡ option_map_or (p s) (find_marks rs s) false → has (storages_at p (r ∷ rs)) s ≡ option_map_or (p s) (if c then Some r.1 else find_marks rs s) false
      by true e rest =
          elim (p r.0 r.1) as (λ b. p r.0 r.1 ≡ b → has (map (λ (r : ℕ × Marks). r.0) (cond b (r ∷ filter (λ r. p r.0 r.1) rs) (filter (λ r. p r.0 r.1) rs))) s ≡ p s r.1) [
            | true ↦ λ t. ap (λ b. b || has (storages_at p rs) s) e ∙ sym t ∙ ap (λ z. p z r.1) (eqb-true r.0 s e)
            | false ↦ λ t. gone (cases_Bool (has (storages_at p rs) s)) ∙ sym t ∙ ap (λ z. p z r.1) (eqb-true r.0 s e)
          ] refl
        where
          gone : ((has (storages_at p rs) s ≡ true) ⊎ (has (storages_at p rs) s ≡ false)) → has (storages_at p rs) s ≡ false
          gone (inl h) = absurd (d.0 (let P : ℕ → Type 0 = λ w. IsMember w (keys_at rs) in subst P (sym (eqb-true r.0 s e)) (passing_listed rs s (has_among (storages_at p rs) s h))))
          gone (inr h) = h
      by false e rest =
          elim (p r.0 r.1) as (λ b. has (map (λ (r : ℕ × Marks). r.0) (cond b (r ∷ filter (λ r. p r.0 r.1) rs) (filter (λ r. p r.0 r.1) rs))) s ≡ option_map_or (p s) (find_marks rs s) false) [
            | true ↦ ap (λ b. b || has (storages_at p rs) s) e ∙ rest
            | false ↦ rest
          ]
