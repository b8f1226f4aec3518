-- Each block number of a lawful arena has one slot, and that slot holds the block of the number.
use Rattle.std.proofs.Common.{◌≡◌, ℕ, Bool, true, false, cond, ◌||◌, List, [], ◌∷◌, map, Some, refl, sym, ap, subst, inl, inr, ◌∙◌, eq-eqb}
use Rattle.std.specs.Prelude.{◌==◌, nat_eq}
use Rattle.std.specs.Map.{lookup, keys_of}
use Rattle.std.specs.List.{IsDistinct, AllByRecursion}
use Rattle.std.proofs.lemmas.Bool.{false≢true}
use Rattle.bm_base.specs.Maps.Lists.{has}
use Rattle.bm_maps.specs.SlotLists.{IsMember, Distinct}
use Rattle.bm_base.proofs.Clusters.{eqb_turned}
use Rattle.bm_base.proofs.ForEach.{Each, each_then, each_both, each_mapped}
use Rattle.bm_arena.specs.Triplets.{Block}
use Rattle.bm_arena.specs.Contents.{Contents, block_at, slot_of, IsLawful}
use Rattle.bm_arena.proofs.HeldReplicas.{one_number}
use Rattle.bm_levels.specs.IndexedLevels.{indexed_slots}

-- the slot has a block, and is the slot of its number
pub record IsOwn (a : Contents) (slot : ℕ) : Type 0 where
  pub block : Block
  pub here : block_at a slot ≡ Some block
  pub led : slot_of a block.id ≡ Some slot

pub own_of : (a : Contents) → IsLawful a → (id slot : ℕ) → slot_of a id ≡ Some slot → IsOwn a slot
own_of a lawful id slot e =
    let h = lawful.found id slot e in
    record { block = h.1; here = h.2; led = ap (slot_of a) h.3 ∙ e }

others_keys : (k : ℕ) (es : List (ℕ × ℕ)) → AllByRecursion (λ y. nat_eq k y ≡ false) (keys_of es) → Each (λ (q : ℕ × ℕ). nat_eq k q.0 ≡ false) es
others_keys k [] h = tt
others_keys k (e ∷ es) h = (h.0, others_keys k es h.1)

-- a search for the key of an entry finds the entry
each_found : (es : List (ℕ × ℕ)) → IsDistinct nat_eq (keys_of es) → Each (λ (q : ℕ × ℕ). lookup (nat_eq q.0) es ≡ Some q.1) es
unfolding IsDistinct
each_found [] h = tt
each_found (e ∷ es) h = (
  ap (λ b. cond b (Some e.1) (lookup (nat_eq e.0) es)) (eq-eqb e.0 e.0 refl),
  each_then (λ (q : ℕ × ℕ). (lookup (nat_eq q.0) es ≡ Some q.1) × (nat_eq e.0 q.0 ≡ false)) (λ (q : ℕ × ℕ). lookup (nat_eq q.0) (e ∷ es) ≡ Some q.1) es
      (each_both (λ (q : ℕ × ℕ). lookup (nat_eq q.0) es ≡ Some q.1) (λ (q : ℕ × ℕ). nat_eq e.0 q.0 ≡ false) es (each_found es h.1) (others_keys e.0 es h.0))
      (λ q g. ap (λ b. cond b (Some e.1) (lookup (nat_eq q.0) es)) (eqb_turned q.0 e.0 ∙ g.1) ∙ g.0),
)

module _ (a : Contents) (lawful : IsLawful a) where
  abbrev IsLed : ℕ × ℕ → Type 0
  IsLed p = slot_of a p.0 ≡ Some p.1

  slot_again : (slot : ℕ) (es : List (ℕ × ℕ)) → Each IsLed es → IsMember slot (map (λ (p : ℕ × ℕ). p.1) es) → (id : ℕ) → Each (λ (q : ℕ × ℕ). nat_eq id q.0 ≡ false) es → slot_of a id ≡ Some slot → ⊥
  slot_again slot [] led there id differ e = there
  slot_again slot (p ∷ es) led there id differ e =
      elim there [
        | inl same ↦
            let one : id ≡ p.0 = one_number a lawful id p.0 p.1 (e ∙ ap (λ k. Some k) same) led.0 in
            false≢true (sym differ.0 ∙ eq-eqb id p.0 one)
        | inr later ↦ slot_again slot es led.1 later id differ.1 e
      ]

  slots_distinct : (es : List (ℕ × ℕ)) → IsDistinct nat_eq (keys_of es) → Each IsLed es → Distinct (map (λ (p : ℕ × ℕ). p.1) es)
  unfolding IsDistinct
  slots_distinct [] h led = tt
  slots_distinct (p ∷ es) h led = (λ there. slot_again p.1 es led.1 there p.0 (others_keys p.0 es h.0) led.0, slots_distinct es h.1 led.1)

  pub led_once : Distinct (indexed_slots a)
  led_once = slots_distinct a.ids lawful.each (each_found a.ids lawful.each)

  pub led_own : Each (IsOwn a) (indexed_slots a)
  led_own = each_mapped (IsOwn a) (λ (p : ℕ × ℕ). p.1) a.ids (each_then IsLed (λ p. IsOwn a p.1) a.ids (each_found a.ids lawful.each) (λ p e. own_of a lawful p.0 p.1 e))

  led_by : (id slot : ℕ) (es : List (ℕ × ℕ)) → lookup (nat_eq id) es ≡ Some slot → has (map (λ (p : ℕ × ℕ). p.1) es) slot ≡ true
  led_by id slot [] e = cc
  led_by id slot (p ∷ es) e = by (nat_eq id p.0) e (led_by id slot es)
    where
      by : (b : Bool) → cond b (Some p.1) (lookup (nat_eq id) es) ≡ Some slot → (lookup (nat_eq id) es ≡ Some slot → has (map (λ (p : ℕ × ℕ). p.1) es) slot ≡ true) → ((p.1 == slot) || has (map (λ (p : ℕ × ℕ). p.1) es) slot) ≡ true
      by true f rest = let same : p.1 ≡ slot = (cc) in ap (λ b. b || has (map (λ (p : ℕ × ℕ). p.1) es) slot) (eq-eqb p.1 slot same)
      by false f rest = either (p.1 == slot) (rest f)
        where
          either : (b : Bool) {c : Bool} → c ≡ true → (b || c) ≡ true
          either true e = refl
          either false e = e

  -- the slot of a number is one of the indexed slots
  pub has_led : (id slot : ℕ) → slot_of a id ≡ Some slot → has (indexed_slots a) slot ≡ true
  has_led id slot e = led_by id slot a.ids e

each_among : (P : ℕ → Type 0) (xs : List ℕ) (x : ℕ) → Each P xs → IsMember x xs → P x
each_among P [] x h there = absurd there
each_among P (y ∷ ys) x h there = elim there [ inl same ↦ subst P (sym same) h.0 | inr later ↦ each_among P ys x h.1 later ]

pub own_among : (a : Contents) → IsLawful a → (slot : ℕ) → IsMember slot (indexed_slots a) → IsOwn a slot
own_among a lawful slot there = each_among (IsOwn a) (indexed_slots a) slot (led_own a lawful) there
