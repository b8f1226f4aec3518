-- A round scans no slot twice, and each that is unsettled or needs more copies before the bound.
use Rattle.std.specs.Prelude.{◌≡◌, ◌≢◌, ℕ, Bool, true, false, not, ◌&&◌, List, [], ◌∷◌, ◌++◌, map, filter, Option, Some, None, option_and_then}
use Rattle.std.specs.Option.{option_map_or}
use Rattle.std.proofs.Common.{◌⊎◌, cond, inl, inr, refl, sym, ap, subst, ◌∙◌}
use Rattle.std.proofs.lemmas.Bool.{cases_Bool, true≢false, and_from, not-true}
use Rattle.std.proofs.lemmas.List.{append_assoc, map-append}
use Rattle.std.proofs.lemmas.List.Elements.{filter-append}
use Rattle.std.proofs.lemmas.Option.{same_Some}
use Rattle.bm_base.specs.declared.replica.Level.{Level}
use Rattle.bm_base.specs.declared.replica.Level.TheVariants.{Highest, VeryUnderReplicated, UnderReplicated, BadlyDistributed, NoUsableReplica}
use Rattle.bm_maps.specs.SlotLists.{IsMember, Distinct}
use Rattle.bm_base.specs.Maps.Lists.{has}
use Rattle.bm_arena.specs.Triplets.{Block}
use Rattle.bm_arena.specs.Contents.{Contents, block_at, slot_of, IsLawful}
use Rattle.bm_arena.specs.HeldMaps.{info_at, id_at}
use Rattle.bm_arena.proofs.Replicas.{IsMember-append, IsMember-left}
use Rattle.bm_levels.specs.Status.{is_settled_at}
use Rattle.bm_levels.specs.IndexedLevels.{IndexedLevels, level_of_slot, IsUnsettled, NeedCopies, slots_needing_copies, needs_copies}
use Rattle.bm_levels.specs.LeveledBlocks.{Leveled, IsLeveled}
use Rattle.bm_levels.proofs.EqualLists.{has_among, among_has}
use Rattle.bm_levels.proofs.ManySlots.{marker_settled}
use Rattle.bm_levels.proofs.StatusUpdates.{among_back}
use Rattle.bm_parts.specs.BoundedWishes.{is_before}
use Rattle.bm_round_scan.specs.ScannedSlots.{scanned_slots, key_at, is_settled_to_scan}
use Rattle.bm_base.proofs.ListTests.{and_first, and_second}

-- Lists with no slot in common.

abbrev AreApart : List ℕ → List ℕ → Type 0
AreApart xs ys = (z : ℕ) → IsMember z xs → IsMember z ys → ⊥

distinct_appended : (xs ys : List ℕ) → Distinct xs → Distinct ys → AreApart xs ys → Distinct (xs ++ ys)
distinct_appended [] ys d e apart = e
distinct_appended (x ∷ xs) ys d e apart =
    (λ h. elim (IsMember-append x xs ys h) [ inl l ↦ d.0 l | inr r ↦ apart x (inl refl) r ], distinct_appended xs ys d.1 e (λ z h. apart z (inr h)))

module _ (p : ℕ → Bool) where
  pub among_filtered : (x : ℕ) (xs : List ℕ) → IsMember x (filter p xs) → IsMember x xs × (p x ≡ true)
  among_filtered x [] h = absurd h
  among_filtered x (y ∷ ys) h = by (p y) refl h (among_filtered x ys)
    where
      by : (t : Bool) → p y ≡ t → IsMember x (cond t (y ∷ filter p ys) (filter p ys)) → (IsMember x (filter p ys) → IsMember x ys × (p x ≡ true)) → ((x ≡ y) ⊎ IsMember x ys) × (p x ≡ true)
      by true e g rest = elim g [ inl same ↦ (inl same, ap p same ∙ e) | inr later ↦ (inr (rest later).0, (rest later).1) ]
      by false e g rest = (inr (rest g).0, (rest g).1)

  pub among_passing : (x : ℕ) (xs : List ℕ) → IsMember x xs → p x ≡ true → IsMember x (filter p xs)
  among_passing x [] h e = absurd h
  among_passing x (y ∷ ys) h e = by (p y) refl h (λ later. among_passing x ys later e)
    where
      by : (t : Bool) → p y ≡ t → (x ≡ y) ⊎ IsMember x ys → (IsMember x ys → IsMember x (filter p ys)) → IsMember x (cond t (y ∷ filter p ys) (filter p ys))
      by true is g rest = elim g [ inl same ↦ inl same | inr later ↦ inr (rest later) ]
      by false is g rest = elim g [ inl same ↦ absurd (true≢false (sym e ∙ ap p same ∙ is)) | inr later ↦ rest later ]

  pub distinct_filtered : (xs : List ℕ) → Distinct xs → Distinct (filter p xs)
  distinct_filtered [] d = d
  distinct_filtered (y ∷ ys) d = by (p y) (distinct_filtered ys d.1)
    where
      by : (t : Bool) → Distinct (filter p ys) → Distinct (cond t (y ∷ filter p ys) (filter p ys))
      by true rest = (λ h. d.0 (among_filtered y ys h).0, rest)
      by false rest = rest

module _ (f : ℕ → ℕ) where
  among_mapped : (z : ℕ) (xs : List ℕ) → IsMember z (map f xs) → (y : ℕ) × IsMember y xs × (z ≡ f y)
  among_mapped z [] h = absurd h
  among_mapped z (x ∷ xs) h = elim h [ inl same ↦ (x, inl refl, same) | inr later ↦ (let rest = among_mapped z xs later in (rest.0, inr rest.1, rest.2)) ]

  pub mapped_among : (x : ℕ) (xs : List ℕ) → IsMember x xs → IsMember (f x) (map f xs)
  mapped_among x [] h = absurd h
  mapped_among x (y ∷ ys) h = elim h [ inl same ↦ inl (ap f same) | inr later ↦ inr (mapped_among x ys later) ]

  pub distinct_mapped : (g : ℕ → Option ℕ) (xs : List ℕ) → Distinct xs → ((x : ℕ) → IsMember x xs → g (f x) ≡ Some x) → Distinct (map f xs)
  distinct_mapped g [] d back = tt
  distinct_mapped g (x ∷ xs) d back = (
    λ h. let one = among_mapped (f x) xs h in
        d.0 (let P : ℕ → Type 0 = λ w. IsMember w xs in subst P (sym (same_Some x one.0 (sym (back x (inl refl)) ∙ ap g one.2 ∙ back one.0 (inr one.1)))) one.1),
    distinct_mapped g xs d.1 (λ y h. back y (inr h)),
  )

-- The slots that a round scans.

-- a block that needs copies has a level
level_needing_copies : (o : Option Level) → needs_copies o ≡ true → (l : Level) × (o ≡ Some l)
level_needing_copies None e = absurd (true≢false (sym e))
level_needing_copies (Some l) e = (l, refl)

needs_copies_at : (l : Level) → l ≢ NoUsableReplica → needs_copies (Some l) ≡ true
needs_copies_at Highest wanted = refl
needs_copies_at VeryUnderReplicated wanted = refl
needs_copies_at UnderReplicated wanted = refl
needs_copies_at BadlyDistributed wanted = refl
needs_copies_at NoUsableReplica wanted = absurd (wanted refl)

-- the properties of the sets of slots
pub record AreListed (K : IndexedLevels) : Type 0 where
  pub unsettled : Distinct K.unsettled.slots
  pub needing_copies : NeedCopies K (slots_needing_copies K)
  pub once : Distinct (slots_needing_copies K)

module _ (K : IndexedLevels) (is : AreListed K) where
  abbrev u : List ℕ
  u = K.unsettled.slots

  module _ (a : Contents) (bound : Option (ℕ × ℕ)) (has_enough : ℕ → Bool) where
    abbrev to_scan : ℕ → Bool
    to_scan = is_settled_to_scan K a bound has_enough

    abbrev slots : List ℕ
    slots = scanned_slots K a bound has_enough

    abbrev settled : List ℕ
    settled = filter to_scan (slots_needing_copies K)

    settled_apart : AreApart u settled
    settled_apart z here there = true≢false (sym (among_has u z here) ∙ not-true (has u z) (and_first (not (has u z)) (not (has_enough z)) (and_second (is_before bound (key_at K a z)) (not (has u z) && not (has_enough z)) (among_filtered to_scan z (slots_needing_copies K) there).1)))

    pub scanned_once : Distinct slots
    scanned_once = distinct_appended u settled is.unsettled (distinct_filtered to_scan (slots_needing_copies K) is.once) settled_apart

    pub unsettled_scanned : (slot : ℕ) → IsUnsettled K slot → IsMember slot slots
    unsettled_scanned slot h = IsMember-left slot u settled h

    pub level_scanned : (l : Level) (slot : ℕ) → l ≢ NoUsableReplica → level_of_slot K slot ≡ Some l → is_before bound (key_at K a slot) ≡ true → has_enough slot ≡ false → IsMember slot slots
    level_scanned l slot wanted at early lacks =
        elim (cases_Bool (has u slot)) [
          | inl there ↦ unsettled_scanned slot (has_among u slot there)
          | inr none ↦
              among_back slot u settled (among_passing to_scan slot (slots_needing_copies K) ((is.needing_copies slot).1 (ap needs_copies at ∙ needs_copies_at l wanted))
              (and_from (is_before bound (key_at K a slot)) (not (has u slot) && not (has_enough slot)) early (and_from (not (has u slot)) (not (has_enough slot)) (ap not none) (ap not lacks))))
        ]

    -- each scanned slot is unsettled, or has a level
    scanned_is : (slot : ℕ) → IsMember slot slots → IsUnsettled K slot ⊎ ((l : Level) × (level_of_slot K slot ≡ Some l))
    scanned_is slot h =
        elim (IsMember-append slot u settled h) [
          | inl loose ↦ inl loose
          | inr needing_copies ↦ inr (level_needing_copies (level_of_slot K slot) ((is.needing_copies slot).0 (among_filtered to_scan slot (slots_needing_copies K) needing_copies).0))
        ]

module _ (v : Leveled) (lawful : IsLawful v.arena) (leveled : IsLeveled v) (is : AreListed v.level_index) (bound : Option (ℕ × ℕ)) (has_enough : ℕ → Bool) where
  abbrev a : Contents
  a = v.arena

  -- an occupied slot other than the delimiter's is the slot of its block's number
  known_at : (slot : ℕ) → slot ≢ a.delimiter → (o : Option Block) → block_at a slot ≡ o → o ≢ None → slot_of a (id_at a slot) ≡ Some slot
  known_at slot other None block_there some = absurd (some refl)
  known_at slot other (Some k) block_there some = ap (slot_of a) (ap (λ o. option_map_or (λ (b : Block). b.id) o 0) block_there) ∙ lawful.known slot k block_there other

  unsettled_held : (slot : ℕ) → is_settled_at (block_at a slot) ≡ false → block_at a slot ≢ None
  unfolding is_settled_at
  unsettled_held slot loose none = true≢false (sym (ap is_settled_at none) ∙ loose)

  unsettled_known : (slot : ℕ) → is_settled_at (block_at a slot) ≡ false → slot ≢ a.delimiter
  unsettled_known slot loose same = true≢false (sym (marker_settled (block_at a a.delimiter) leveled.free leveled.blank) ∙ ap (λ s. is_settled_at (block_at a s)) (sym same) ∙ loose)

  level_info : (slot : ℕ) (l : Level) → level_of_slot v.level_index slot ≡ Some l → info_at a slot ≢ None
  level_info slot l at none = never (sym (leveled.unknown slot none) ∙ at)
    where
      never : None ≡ Some l → ⊥
      never e = cc

  -- a scanned slot is the slot of its block's number
  pub scanned_known_slot : (slot : ℕ) → IsMember slot (scanned_slots v.level_index a bound has_enough) → slot_of a (id_at a slot) ≡ Some slot
  scanned_known_slot slot h =
      elim (scanned_is v.level_index is a bound has_enough slot h) [
        | inl loose ↦ let e = (leveled.unsettled slot).0 loose in known_at slot (unsettled_known slot e) (block_at a slot) refl (unsettled_held slot e)
        | inr at ↦
            known_at slot (λ same. level_info slot at.0 at.1 (ap (info_at a) same ∙ leveled.blank)) (block_at a slot) refl
            (λ none. level_info slot at.0 at.1 (ap (λ (o : Option Block). option_and_then (λ (b : Block). b.info) o) none))
      ]

  pub ids_once : Distinct (map (id_at a) (scanned_slots v.level_index a bound has_enough))
  ids_once = distinct_mapped (id_at a) (slot_of a) (scanned_slots v.level_index a bound has_enough) (scanned_once v.level_index is a bound has_enough) scanned_known_slot

-- the slots of the four levels, appended level by level, are the list of all
pub scanned_by_level : {Y : Type 0} (f : ℕ → Y) (p : ℕ → Bool) (u w x y z : List ℕ)
    → (((map f u ++ map f (filter p w)) ++ map f (filter p x)) ++ map f (filter p y)) ++ map f (filter p z) ≡ map f (u ++ filter p (w ++ (x ++ (y ++ z))))
scanned_by_level f p u w x y z = simp (filter-append, map-append, append_assoc)
