-- A slot with a level or in a storage's list has a block, whose number leads back to that slot.
use Rattle.std.proofs.Common.{◌≡◌, ◌≢◌, ℕ, List, [], ◌∷◌, map, length, get_or, Option, Some, None, is_some, refl, sym, ap, subst, inl, inr, ◌∙◌, ◌<◌, arith, zero, suc}
use Rattle.std.specs.Prelude.{IsSome}
use Rattle.std.specs.Option.{option_map_or}
use Rattle.std.proofs.lemmas.Bool.{false≢true}
use Rattle.bm_base.specs.declared.replica.BlockInfo.{BlockInfo}
use Rattle.bm_maps.specs.SlotLists.{IsMember, Distinct}
use Rattle.bm_base.proofs.Options.{there, chained}
use Rattle.bm_arena.specs.Triplets.{Block}
use Rattle.bm_arena.specs.Contents.{Contents, block_at, slot_of, marks_at, list_of, IsLawful}
use Rattle.bm_arena.specs.HeldMaps.{info_at, id_at}
use Rattle.bm_levels.specs.IndexedLevels.{level_of_slot}
use Rattle.bm_levels.specs.LeveledBlocks.{Leveled, IsLeveled}
use Rattle.bm_base.specs.declared.replica.Level.{Level}
use Rattle.bm_queries.proofs.IndexedSlots.{IsOwn}

pub among_at : (xs : List ℕ) (i d : ℕ) → i < length xs → IsMember (get_or xs i d) xs
among_at [] i d lt = absurd (omega arith)
among_at (x ∷ xs) zero d lt = inl refl
among_at (x ∷ xs) (suc i) d lt = inr (among_at xs i d (omega arith))

pub among_map : (f : ℕ → ℕ) (xs : List ℕ) (x : ℕ) → IsMember x xs → IsMember (f x) (map f xs)
among_map f [] x there = there
among_map f (y ∷ ys) x there = elim there [ inl same ↦ inl (ap f same) | inr later ↦ inr (among_map f ys x later) ]

pub among_from_map : (f : ℕ → ℕ) (xs : List ℕ) (z : ℕ) → IsMember z (map f xs) → (x : ℕ) × IsMember x xs × (z ≡ f x)
among_from_map f [] z there = absurd there
among_from_map f (y ∷ ys) z there =
    elim there [
      | inl same ↦ (y, inl refl, same)
      | inr later ↦ let rest = among_from_map f ys z later in (rest.0, inr rest.1, rest.2)
    ]

module _ (a : Contents) where
  pub id_is : (slot : ℕ) (own : IsOwn a slot) → id_at a slot ≡ own.block.id
  id_is slot own = ap (λ o. option_map_or (λ (b : Block). b.id) o 0) own.here

  pub led_to : (slot : ℕ) → IsOwn a slot → slot_of a (id_at a slot) ≡ Some slot
  led_to slot own = ap (slot_of a) (id_is slot own) ∙ own.led

  pub id_found : IsLawful a → (id slot : ℕ) → slot_of a id ≡ Some slot → id_at a slot ≡ id
  id_found lawful id slot e = let f = lawful.found id slot e in ap (λ o. option_map_or (λ (b : Block). b.id) o 0) f.2 ∙ f.3

  -- the number that a call returns is that of the slot
  pub answered_id : (slot id : ℕ) → IsOwn a slot → ((b : Block) → block_at a slot ≡ Some b → id ≡ b.id) → id ≡ id_at a slot
  answered_id slot id own says = says own.block own.here ∙ sym (id_is slot own)

  pub one_slot : (x y : ℕ) → IsOwn a x → IsOwn a y → id_at a x ≡ id_at a y → x ≡ y
  one_slot x y own too same = one (sym (led_to x own) ∙ ap (slot_of a) same ∙ led_to y too)
    where
      one : {m n : ℕ} → Some m ≡ Some n → m ≡ n
      one e = cc

  pub ids_distinct : (slots : List ℕ) → Distinct slots → ((slot : ℕ) → IsMember slot slots → IsOwn a slot) → Distinct (map (id_at a) slots)
  ids_distinct [] once own = tt
  ids_distinct (x ∷ xs) once own = (
    λ there.
        let z = among_from_map (id_at a) xs (id_at a x) there in
        let P : ℕ → Type 0 = λ w. IsMember w xs in
        once.0 (subst P (sym (one_slot x z.0 (own x (inl refl)) (own z.0 (inr z.1)) z.2)) z.1),
    ids_distinct xs once.1 (λ slot h. own slot (inr h)),
  )

-- an occupied slot other than the delimiter's
own_held : (a : Contents) → IsLawful a → (slot : ℕ) → IsSome (block_at a slot) → slot ≢ a.delimiter → IsOwn a slot
own_held a lawful slot held other =
    let b = there (block_at a slot) held in
    record { block = b.0; here = b.1; led = lawful.known slot b.0 b.1 other }

module _ (v : Leveled) (lawful : IsLawful v.arena) (leveled : IsLeveled v) where
  -- a slot in a storage's list
  pub own_listed : (storage slot : ℕ) → IsMember slot (list_of v.arena storage) → IsOwn v.arena slot
  own_listed storage slot listed =
      let marks = there (marks_at v.arena slot storage) ((lawful.exact slot storage).0 listed) in
      let block = chained _ (block_at v.arena slot) marks.0 marks.1 in
      own_held v.arena lawful slot (ap is_some block.1)
      (λ same. false≢true (sym (ap is_some (ap (λ k. marks_at v.arena k storage) same ∙ leveled.free storage)) ∙ (lawful.exact slot storage).0 listed))

  -- a slot with a level
  pub own_leveled : (l : Level) (slot : ℕ) → level_of_slot v.level_index slot ≡ Some l → IsOwn v.arena slot
  own_leveled l slot e = by (info_at v.arena slot) refl
    where
      by : (o : Option BlockInfo) → info_at v.arena slot ≡ o → IsOwn v.arena slot
      by None none = absurd (false≢true (ap is_some (sym (leveled.unknown slot none) ∙ e)))
      by (Some i) known =
          let block = chained _ (block_at v.arena slot) i known in
          own_held v.arena lawful slot (ap is_some block.1) (λ same. false≢true (ap is_some (sym leveled.blank ∙ ap (info_at v.arena) (sym same) ∙ known)))

-- the slot of an iteration is one of those that are iterated over
pub among_turn : (all yielded : List ℕ) (slot : ℕ) → (length yielded < length all) × (slot ≡ get_or all (length yielded) slot) → IsMember slot all
among_turn all yielded slot turn = let P : ℕ → Type 0 = λ x. IsMember x all in subst P (sym turn.1) (among_at all (length yielded) slot turn.0)
