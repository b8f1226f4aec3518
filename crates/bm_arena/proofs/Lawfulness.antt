-- An arena whose fields keep the invariant is lawful; links lead to the next and previous slots.
use Rattle.std.proofs.Common.{◌≡◌, ℕ, List, [], ◌∷◌, eqb, Option, Some, None, IsSome, refl, inl, inr, sym, ap, ◌∙◌}
use Rattle.std.specs.Option.{option_map, unwrap_or}
use Rattle.std.specs.Map.{lookup}
use Rattle.std.specs.Prelude.{nat_eq}
use Rattle.std.proofs.lemmas.Bool.{cases_Bool, eqb-true, eqb-false, false≢true}
use Rattle.std.proofs.lemmas.Option.{same_Some}
use Rattle.slab.specs.Slab.{Slab}
use Rattle.bm_arena.specs.declared.arena.BlockEntry.{BlockEntry}
use Rattle.bm_arena.specs.declared.arena.Triplet.{Triplet}
use Rattle.bm_arena.specs.Triplets.{triplet_at, links_of, slot_views}
use Rattle.bm_maps.specs.SlotLists.{IsMember, Distinct}
use Rattle.bm_arena.specs.Lists.{Chain}
use Rattle.bm_maps.specs.SlotLists.{slot_after, first_of}
use Rattle.bm_arena.specs.Contents.{IsLawful, before_in, slot_before}
use Rattle.bm_arena.specs.Inside.{list_from, lists_from, IsSound, IsBoundedArena}
use Rattle.bm_arena.proofs.SoundLinks.{Chain-member}
use Rattle.bm_arena.proofs.EntryViews.{marks_in, marks_of, marks-seen, entry_seen, lookup-lists_from}

-- each list visits each slot once, and visits exactly the slots that have a replica on its storage
module _ (slots : Slab BlockEntry) (heads : List (ℕ × Option ℕ)) (sound : IsSound slots heads) where
  distinct_from : (s : ℕ) (o : Option (Option ℕ)) → lookup (nat_eq s) heads ≡ o → Distinct (unwrap_or (option_map (list_from slots s) o) [])
  distinct_from s None is = tt
  distinct_from s (Some first) is = (sound.lists s first is).distinct

  marked_from : (x s : ℕ) (o : Option (Option ℕ)) → lookup (nat_eq s) heads ≡ o → IsMember x (unwrap_or (option_map (list_from slots s) o) []) → IsSome (marks_in (slot_views slots) x s)
  marked_from x s None is there = absurd there
  marked_from x s (Some first) is there =
      let t = Chain-member (links_of slots s) None first (list_from slots s first) x (sound.lists s first is).chain there in
      rw (marks-seen slots x s, t.1) refl

  listed_from : (x s : ℕ) (o : Option Triplet) → triplet_at slots x s ≡ o → IsSome (option_map marks_of o) → IsMember x (unwrap_or (lookup (nat_eq s) (lists_from slots heads)) [])
  listed_from x s None is some = absurd (false≢true some)
  listed_from x s (Some t) is some =
      let found = sound.complete x s t is in
      rw (lookup-lists_from slots s heads, found.1) found.2

pub IsLawful-arena : (slots : Slab BlockEntry) (heads : List (ℕ × Option ℕ)) (ids : List (ℕ × ℕ)) (delimiter bound : ℕ) → IsBoundedArena slots ids heads delimiter bound → (steps : ℕ)
    → IsLawful (record { blocks = slot_views slots; ids = ids; lists = lists_from slots heads; delimiter = delimiter; steps = steps; bound = bound })
IsLawful-arena slots heads ids delimiter bound whole steps = record {
  distinct = λ s. rw (lookup-lists_from slots s heads) (distinct_from slots heads whole.arena.sound s (lookup (nat_eq s) heads) refl);
  exact = λ x s. (
    λ there. marked_from slots heads whole.arena.sound x s (lookup (nat_eq s) heads) refl (rw (lookup-lists_from slots s heads) at there),
    λ some. listed_from slots heads whole.arena.sound x s (triplet_at slots x s) refl (rw (marks-seen slots x s) at some),
  );
  once = whole.arena.sound.once;
  found = whole.arena.numbers.there;
  known = whole.arena.numbers.known;
  each = whole.arena.numbers.each;
  marker = rw whole.arena.numbers.marker.1 refl;
  bounded = λ slot b is. let e = entry_seen slots slot b is in whole.bounded slot e.0 e.1;
}

-- the slot after a slot of a list is the one that its next link leads to
pub slot_after-chain : (links : ℕ → Option Triplet) (x : ℕ) (t : Triplet) → links x ≡ Some t → (before start : Option ℕ) (xs : List ℕ) → Chain links before start xs → IsMember x xs → slot_after x xs ≡ t.next
slot_after-chain links x t own before start [] chain there = absurd there
slot_after-chain links x t own before start (y ∷ ys) chain there =
    elim (cases_Bool (eqb y x)) [
      | inl here ↦
          let same : chain.1 ≡ t = same_Some chain.1 t (sym chain.2 ∙ ap links (eqb-true y x here) ∙ own) in
          rw here (front chain.1.next ys chain.4 ∙ ap (λ (u : Triplet). u.next) same)
      | inr other ↦
          rw other (elim there [
            | inl same ↦ absurd (eqb-false y x other (sym same))
            | inr later ↦ slot_after-chain links x t own (Some y) chain.1.next ys chain.4 later
          ])
    ]
  where
    front : (next : Option ℕ) (zs : List ℕ) → Chain links (Some y) next zs → first_of zs ≡ next
    front next [] chain = sym chain
    front next (z ∷ zs) chain = sym chain.0

pub next_after-list : (slots : Slab BlockEntry) (heads : List (ℕ × Option ℕ)) (s x : ℕ) (t : Triplet) → IsSound slots heads → Some t ≡ triplet_at slots x s → t.next ≡ slot_after x (unwrap_or (lookup (nat_eq s) (lists_from slots heads)) [])
next_after-list slots heads s x t sound own =
    let found = sound.complete x s t (sym own) in
    rw (lookup-lists_from slots s heads, found.1)
    (sym (slot_after-chain (links_of slots s) x t (sym own) None found.0 (list_from slots s found.0) (sound.lists s found.0 found.1).chain found.2))

-- the slot before a slot of a list is the one that its previous link leads to
before_in-chain : (links : ℕ → Option Triplet) (x : ℕ) (t : Triplet) → links x ≡ Some t → (before start : Option ℕ) (xs : List ℕ) → Chain links before start xs → IsMember x xs → before_in before x xs ≡ t.previous
before_in-chain links x t own before start [] chain there = absurd there
before_in-chain links x t own before start (y ∷ ys) chain there =
    elim (cases_Bool (eqb y x)) [
      | inl here ↦
          let same : chain.1 ≡ t = same_Some chain.1 t (sym chain.2 ∙ ap links (eqb-true y x here) ∙ own) in
          rw here (sym chain.3 ∙ ap (λ (u : Triplet). u.previous) same)
      | inr other ↦
          rw other (elim there [
            | inl same ↦ absurd (eqb-false y x other (sym same))
            | inr later ↦ before_in-chain links x t own (Some y) chain.1.next ys chain.4 later
          ])
    ]

pub previous_before-list : (slots : Slab BlockEntry) (heads : List (ℕ × Option ℕ)) (s x : ℕ) (t : Triplet) → IsSound slots heads → Some t ≡ triplet_at slots x s → t.previous ≡ slot_before x (unwrap_or (lookup (nat_eq s) (lists_from slots heads)) [])
previous_before-list slots heads s x t sound own =
    let found = sound.complete x s t (sym own) in
    rw (lookup-lists_from slots s heads, found.1)
    (sym (before_in-chain (links_of slots s) x t (sym own) None found.0 (list_from slots s found.0) (sound.lists s found.0 found.1).chain found.2))
