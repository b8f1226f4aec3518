-- If only one storage's links change, to a list of all its slots, the arena's links are sound.
use Rattle.std.proofs.Common.{◌≡◌, ◌≢◌, ℕ, zero, suc, ◌<◌, List, [], ◌∷◌, length, get_or, false, cond, eqb, Option, Some, None, refl, subst, inl, inr, sym, ap, ◌∙◌}
use Rattle.std.specs.Map.{lookup, set_value, keys_of}
use Rattle.std.specs.List.{IsDistinct, AllByRecursion}
use Rattle.std.specs.Prelude.{nat_eq}
use Rattle.std.proofs.lemmas.Bool.{cases_lt, cases_eq, cases_Bool, ne_eqb, eqb-true, eqb-false}
use Rattle.std.proofs.lemmas.Option.{none-some, same_Some}
use Rattle.std.proofs.lemmas.List.{get_or_past}
use Rattle.slab.specs.Slab.{Slab}
use Rattle.bm_arena.specs.declared.arena.BlockEntry.{BlockEntry}
use Rattle.bm_arena.specs.declared.arena.Triplet.{Triplet}
use Rattle.bm_arena.specs.Triplets.{Block, triplet_at, links_of, slot_views}
use Rattle.bm_maps.specs.SlotLists.{IsMember, Distinct}
use Rattle.bm_arena.specs.Lists.{walk, next_of, Chain, IsList}
use Rattle.bm_arena.specs.Inside.{list_from, lists_from, storages_of, IsSound}
use Rattle.bm_maps.proofs.SlotLists.{length-distinct_below}
use Rattle.bm_arena.proofs.Lists.{Chain-frame, walk-chain}
use Rattle.bm_arena.proofs.Triplets.{read}

-- a look-up in a list of heads, or of lists, after a write at one storage
module _ {X : Type 0} (storage : ℕ) (w : X) where
  pub lookup-set_same : (es : List (ℕ × X)) (v : X) → lookup (nat_eq storage) es ≡ Some v → lookup (nat_eq storage) (set_value (nat_eq storage) es w) ≡ Some w
  lookup-set_same [] v there = absurd (none-some v there)
  lookup-set_same (e ∷ es) v there =
      elim (cases_Bool (eqb storage e.0)) [
        | inl here ↦ rw (here, here) refl
        | inr other ↦ rw (other, other) (lookup-set_same es v (rw other at there))
      ]

  pub lookup-set_other : (other : ℕ) (es : List (ℕ × X)) → other ≢ storage → lookup (nat_eq other) (set_value (nat_eq storage) es w) ≡ lookup (nat_eq other) es
  lookup-set_other other [] differs = refl
  lookup-set_other other (e ∷ es) differs =
      elim (cases_Bool (eqb storage e.0)) [
        | inl here ↦
            let test : eqb other e.0 ≡ false = ne_eqb _ _ (λ s. differs (s ∙ sym (eqb-true _ _ here))) in
            rw (here, test) refl
        | inr passed ↦ rw passed (ap (λ r. cond (eqb other e.0) (Some e.1) r) (lookup-set_other other es differs))
      ]

-- walks and lists over equal links are equal
pub walk-same : (links new : ℕ → Option Triplet) → ((x : ℕ) → new x ≡ links x) → (n : ℕ) (start : Option ℕ) → walk new n start ≡ walk links n start
walk-same links new same zero start = refl
walk-same links new same (suc n) None = refl
walk-same links new same (suc n) (Some x) = ap (λ xs. x ∷ xs) (ap (λ t. walk new n (next_of t)) (same x) ∙ walk-same links new same n (next_of (links x)))

pub IsList-same : (links new : ℕ → Option Triplet) (first : Option ℕ) (xs : List ℕ) → ((x : ℕ) → new x ≡ links x) → IsList links first xs → IsList new first xs
IsList-same links new first xs same list = record { chain = Chain-frame links new None first xs list.chain (λ x _. same x); distinct = list.distinct }

pub Chain-member : (links : ℕ → Option Triplet) (before start : Option ℕ) (xs : List ℕ) (x : ℕ) → Chain links before start xs → IsMember x xs → (t : Triplet) × (links x ≡ Some t)
Chain-member links before start [] x chain there = absurd there
Chain-member links before start (y ∷ ys) x chain (inl same) = (chain.1, ap links same ∙ chain.2)
Chain-member links before start (y ∷ ys) x chain (inr later) = Chain-member links (Some y) chain.1.next ys x chain.4 later

pub triplet_at_within : (slots : Slab BlockEntry) (x storage : ℕ) (t : Triplet) → triplet_at slots x storage ≡ Some t → x < length slots.slots
triplet_at_within slots x storage t is =
    elim (cases_lt x (length slots.slots)) [
      | inl within ↦ within
      | inr past ↦ absurd (none-some t (sym (ap (read storage) (get_or_past slots.slots x None past)) ∙ is))
    ]

-- the walk from the head visits the list
pub list_from-list : (slots : Slab BlockEntry) (storage : ℕ) (first : Option ℕ) (xs : List ℕ) → IsList (links_of slots storage) first xs → list_from slots storage first ≡ xs
list_from-list slots storage first xs list =
    walk-chain (links_of slots storage) None first xs (length slots.slots) list.chain
    (length-distinct_below (length slots.slots) xs list.distinct (λ x there.
    let t = Chain-member (links_of slots storage) None first xs x list.chain there in
    triplet_at_within slots x storage t.0 t.1))

-- one storage's list becomes ys, and the links of the others stay
module _ (slots new : Slab BlockEntry) (storage : ℕ) (first : Option ℕ) (ys : List ℕ)
    (others : (other : ℕ) → other ≢ storage → (x : ℕ) → triplet_at new x other ≡ triplet_at slots x other)
    (len : length new.slots ≡ length slots.slots)
    (list : IsList (links_of new storage) first ys) where
  other_list : (other : ℕ) (start : Option ℕ) → other ≢ storage → list_from new other start ≡ list_from slots other start
  other_list other start differs =
      ap (λ n. walk (links_of new other) n start) len ∙ walk-same (links_of slots other) (links_of new other) (others other differs) (length slots.slots) start

  lists-elsewhere : (es : List (ℕ × Option ℕ)) → AllByRecursion (λ k. eqb storage k ≡ false) (keys_of es) → lists_from new es ≡ lists_from slots es
  lists-elsewhere [] apart = refl
  lists-elsewhere (e ∷ es) apart =
      let head : list_from new e.0 e.1 ≡ list_from slots e.0 e.1 = other_list e.0 e.1 (λ s. eqb-false storage e.0 apart.0 (sym s)) in
      rw (head, lists-elsewhere es apart.1) refl

  pub lists-step : (es : List (ℕ × Option ℕ)) → IsDistinct nat_eq (keys_of es) → lists_from new (set_value (nat_eq storage) es first) ≡ set_value (nat_eq storage) (lists_from slots es) ys
  unfolding IsDistinct
  lists-step [] distinct = refl
  lists-step (e ∷ es) distinct =
      elim (cases_Bool (eqb storage e.0)) [
        | inl here ↦
            let same : storage ≡ e.0 = eqb-true storage e.0 here in
            let own : list_from new e.0 first ≡ ys = let P : ℕ → Type 0 = λ s. list_from new s first ≡ ys in subst P same (list_from-list new storage first ys list) in
            let rest : AllByRecursion (λ k. eqb storage k ≡ false) (keys_of es) =
            let P : ℕ → Type 0 = λ s. AllByRecursion (λ k. eqb s k ≡ false) (keys_of es) in subst P (sym same) distinct.0 in
            rw here (ap (λ xs. (e.0, xs) ∷ lists_from new es) own ∙ ap (λ l. (e.0, ys) ∷ l) (lists-elsewhere es rest))
        | inr passed ↦
            let head : list_from new e.0 e.1 ≡ list_from slots e.0 e.1 = other_list e.0 e.1 (λ s. eqb-false storage e.0 passed (sym s)) in
            rw passed (ap (λ xs. (e.0, xs) ∷ lists_from new (set_value (eqb storage) es first)) head ∙ ap (λ l. (e.0, list_from slots e.0 e.1) ∷ l) (lists-step es distinct.1))
      ]

  module _ (heads : List (ℕ × Option ℕ)) (old : Option ℕ) (sound : IsSound slots heads) (known : lookup (nat_eq storage) heads ≡ Some old)
      (all : (x : ℕ) (t : Triplet) → triplet_at new x storage ≡ Some t → IsMember x ys)
      (once : (x : ℕ) (b : Block) → get_or (slot_views new) x None ≡ Some b → Distinct (storages_of b)) where
    abbrev heads_new : List (ℕ × Option ℕ)
    heads_new = set_value (nat_eq storage) heads first

    own_list : (start : Option ℕ) → lookup (nat_eq storage) heads_new ≡ Some start → IsList (links_of new storage) start (list_from new storage start)
    own_list start is =
        let same : first ≡ start = same_Some first start (sym (lookup-set_same storage first heads old known) ∙ is) in
        let P : Option ℕ → Type 0 = λ s. IsList (links_of new storage) s (list_from new storage s) in
        subst P same (rw (list_from-list new storage first ys list) list)

    own_complete : (x : ℕ) (t : Triplet) → triplet_at new x storage ≡ Some t → (start : Option ℕ) × (lookup (nat_eq storage) heads_new ≡ Some start) × IsMember x (list_from new storage start)
    own_complete x t is =
        (first, lookup-set_same storage first heads old known, rw (list_from-list new storage first ys list) (all x t is))

    pub IsSound-step : IsSound new heads_new
    IsSound-step = record {
      lists = λ other start is.
          elim (cases_eq other storage) [
            | inl same ↦
                let P : ℕ → Type 0 = λ s. lookup (nat_eq s) heads_new ≡ Some start → IsList (links_of new s) start (list_from new s start) in
                subst P (sym same) (own_list start) is
            | inr differs ↦
                let before = sound.lists other start (sym (lookup-set_other storage first other heads differs) ∙ is) in
                rw (other_list other start differs) (IsList-same (links_of slots other) (links_of new other) start (list_from slots other start) (others other differs) before)
          ];
      complete = λ x other t is.
          elim (cases_eq other storage) [
            | inl same ↦
                let P : ℕ → Type 0 = λ s. triplet_at new x s ≡ Some t → (start : Option ℕ) × (lookup (nat_eq s) heads_new ≡ Some start) × IsMember x (list_from new s start) in
                subst P (sym same) (own_complete x t) is
            | inr differs ↦
                let before = sound.complete x other t (sym (others other differs x) ∙ is) in
                (before.0, lookup-set_other storage first other heads differs ∙ before.1, rw (other_list other before.0 differs) before.2)
          ];
      once = once;
    }
