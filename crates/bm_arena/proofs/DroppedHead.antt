-- Dropping the head of an empty list keeps an arena's invariant and all lists.
use Rattle.std.proofs.Common.{◌≡◌, ◌≢◌, ℕ, ◌≤◌, ◌-◌, List, [], ◌∷◌, map, length, get_or, set, take, swap_remove, position, Bool, true, false, cond, eqb, Option, Some, None, IsSome, refl, subst, inl, inr, sym, ap, ◌∙◌, arith}
use Rattle.std.specs.Option.{option_map, option_map_or, unwrap_or}
use Rattle.std.specs.Map.{lookup, keys_of}
use Rattle.std.specs.List.{IsDistinct}
use Rattle.std.specs.Prelude.{nat_eq}
use Rattle.std.proofs.lemmas.Bool.{cases_Bool, eqb-true, eq-eqb, cond-false, ne_eqb, false≢true}
use Rattle.std.proofs.lemmas.Option.{none-some}
use Rattle.std.proofs.lemmas.List.{length-map, take-map, map-set}
use Rattle.std.proofs.Math.ListN.{get_or-map}
use Rattle.indexmap.specs.IndexMap.{swap_remove_entry}
use Rattle.slab.specs.Slab.{Slab}
use Rattle.bm_arena.specs.declared.arena.BlockEntry.{BlockEntry}
use Rattle.bm_maps.specs.SlotLists.{IsMember}
use Rattle.bm_arena.specs.Inside.{list_from, lists_from, IsArena}
use Rattle.bm_arena.proofs.EntryViews.{lookup-lists_from}

map-swap_remove : {X Y : Type 0} (f : X → Y) (xs : List X) (i : ℕ) (d : X) → map f (swap_remove xs i d) ≡ swap_remove (map f xs) i (f d)
map-swap_remove f xs i d =
    sym (take-map f (length xs - 1) (set xs i (get_or xs (length xs - 1) d)))
    ∙ ap (take (length xs - 1)) (map-set f xs i (get_or xs (length xs - 1) d) ∙ ap (set (map f xs) i) (sym (get_or-map f xs (length xs - 1) d)))
    ∙ ap (λ n. take (n - 1) (set (map f xs) i (get_or (map f xs) (n - 1) (f d)))) (sym (length-map xs f))

module _ (slots : Slab BlockEntry) where
  abbrev seen : ℕ × Option ℕ → ℕ × List ℕ
  seen h = (h.0, list_from slots h.0 h.1)

  keys-seen : (es : List (ℕ × Option ℕ)) → keys_of (lists_from slots es) ≡ keys_of es
  keys-seen [] = refl
  keys-seen (e ∷ es) = ap (λ ks. e.0 ∷ ks) (keys-seen es)

  lists-swap_removed : (test : ℕ → Bool) (es : List (ℕ × Option ℕ)) → lists_from slots (swap_remove_entry test es) ≡ swap_remove_entry test (lists_from slots es)
  lists-swap_removed test [] = refl
  lists-swap_removed test (e ∷ es) =
      by (position test (keys_of (e ∷ es))) ∙ ap (λ o. option_map_or (λ i. swap_remove (lists_from slots (e ∷ es)) i (seen e)) o (lists_from slots (e ∷ es))) (sym (ap (position test) (keys-seen (e ∷ es))))
    where
      by : (o : Option ℕ) → lists_from slots (option_map_or (λ i. swap_remove (e ∷ es) i e) o (e ∷ es)) ≡ option_map_or (λ i. swap_remove (lists_from slots (e ∷ es)) i (seen e)) o (lists_from slots (e ∷ es))
      by None = refl
      by (Some i) = map-swap_remove seen (e ∷ es) i e

module _ (slots : Slab BlockEntry) (ids : List (ℕ × ℕ)) (heads after : List (ℕ × Option ℕ)) (delimiter s : ℕ) (arena : IsArena slots ids heads delimiter)
    (empty : unwrap_or (lookup (nat_eq s) (lists_from slots heads)) [] ≡ [])
    (updates : (q : ℕ) → lookup (nat_eq q) after ≡ cond (eqb s q) None (lookup (nat_eq q) heads)) where
  pub drop_head-arena : IsDistinct nat_eq (keys_of after) → length after ≤ length heads → IsArena slots ids after delimiter
  drop_head-arena unique fewer = record {
    sound = record {
      lists = λ q first is.
          elim (cases_Bool (eqb s q)) [
            | inl same ↦ absurd (none-some first (rw same at (sym (updates q) ∙ is)))
            | inr other ↦ arena.sound.lists q first (rw other at (sym (updates q) ∙ is))
          ];
      complete = λ x q t is.
          let before = arena.sound.complete x q t is in
          elim (cases_Bool (eqb s q)) [
            | inl same ↦
                let none : list_from slots q before.0 ≡ [] =
                sym (ap (λ o. unwrap_or o []) (lookup-lists_from slots q heads ∙ ap (option_map (list_from slots q)) before.1))
                ∙ (let P : ℕ → Type 0 = λ k. unwrap_or (lookup (nat_eq k) (lists_from slots heads)) [] ≡ [] in subst P (eqb-true s q same) empty) in
                let P : List ℕ → Type 0 = λ l. IsMember x l in
                absurd (subst P none before.2)
            | inr other ↦ (before.0, updates q ∙ cond-false _ _ _ other ∙ before.1, before.2)
          ];
      once = arena.sound.once;
    };
    unique = unique;
    numbers = record {
      there = arena.numbers.there;
      known = arena.numbers.known;
      marker = let b = arena.numbers.marker in (b.0, b.1, omega (arith, fewer, b.2));
      each = arena.numbers.each;
      small = arena.numbers.small;
    };
  }

  pub drop_head-lists : after ≡ swap_remove_entry (nat_eq s) heads → lists_from slots after ≡ swap_remove_entry (nat_eq s) (lists_from slots heads)
  drop_head-lists is = ap (lists_from slots) is ∙ lists-swap_removed slots (nat_eq s) heads

  -- no list changed, and no other head went
  pub drop_head-list : (q : ℕ) → unwrap_or (lookup (nat_eq q) (lists_from slots after)) [] ≡ unwrap_or (lookup (nat_eq q) (lists_from slots heads)) []
  drop_head-list q =
      elim (cases_Bool (eqb s q)) [
        | inl same ↦
            let P : ℕ → Type 0 = λ k. unwrap_or (lookup (nat_eq k) (lists_from slots heads)) [] ≡ [] in
            let none : unwrap_or (lookup (nat_eq q) (lists_from slots heads)) [] ≡ [] = subst P (eqb-true s q same) empty in
            rw (none, lookup-lists_from slots q after, updates q, same) refl
        | inr other ↦ rw (lookup-lists_from slots q after, lookup-lists_from slots q heads, updates q, other) refl
      ]

  pub drop_head-head : (q : ℕ) → q ≢ s → IsSome (lookup (nat_eq q) (lists_from slots heads)) → IsSome (lookup (nat_eq q) (lists_from slots after))
  drop_head-head q differs some =
      let there = rw (lookup-lists_from slots q heads) at some in
      rw (lookup-lists_from slots q after, updates q, ne_eqb s q (λ e. differs (sym e))) there

  pub drop_head-gone : IsSome (lookup (nat_eq s) (lists_from slots after)) → ⊥
  drop_head-gone some =
      let there = rw (lookup-lists_from slots s after) at some in
      let none : lookup (nat_eq s) after ≡ None = updates s ∙ ap (λ t. cond t None (lookup (nat_eq s) heads)) (eq-eqb s s refl) in
      let P : Option (Option ℕ) → Type 0 = λ o. IsSome (option_map (list_from slots s) o) in
      false≢true (subst P none there)

  pub drop_head-fewer : (q : ℕ) → IsSome (lookup (nat_eq q) (lists_from slots after)) → IsSome (lookup (nat_eq q) (lists_from slots heads))
  drop_head-fewer q some =
      let there = rw (lookup-lists_from slots q after) at some in
      let P : Option (Option ℕ) → Type 0 = λ o. IsSome (option_map (list_from slots q) o) in
      rw (lookup-lists_from slots q heads) (by (eqb s q) (lookup (nat_eq q) heads) (subst P (updates q) there))
    where
      by : (t : Bool) (o : Option (Option ℕ)) → IsSome (option_map (list_from slots q) (cond t None o)) → IsSome (option_map (list_from slots q) o)
      by true o h = absurd (false≢true h)
      by false o h = h
