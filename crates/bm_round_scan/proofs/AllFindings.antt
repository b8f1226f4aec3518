-- The scanned blocks' findings, sorted, are the round's part, with the wishes before the bound.
use Rattle.std.specs.Prelude.{◌≡◌, ◌≢◌, ℕ, Bool, true, false, nat_lt, if◌then◌else◌, List, [], ◌∷◌, map, Option, Some, None, IsSome, is_some, IsTrue, option_and_then}
use Rattle.std.specs.List.Sorted.{IsPermutation}
use Rattle.std.proofs.Common.{◌⊎◌, inl, inr, refl, sym, ap, subst, ◌∙◌}
use Rattle.std.proofs.lemmas.Bool.{cases_Bool, false≢true}
use Rattle.std.proofs.lemmas.List.Sorted.{IsPermutation-map}
use Rattle.std.specs.Option.{option_map_or}
use Rattle.bm_base.specs.declared.replica.Level.{Level}
use Rattle.bm_base.specs.declared.replica.Level.TheVariants.{NoUsableReplica}
use Rattle.bm_base.specs.declared.replica.ReplicaId.{ReplicaId}
use Rattle.bm_base.specs.declared.replica.Marks.{Marks}
use Rattle.bm_base.specs.declared.replica.BlockInfo.{BlockInfo}
use Rattle.bm_base.specs.declared.commands.Delete.{Delete}
use Rattle.bm_base.specs.declared.round.Wish.{Wish}
use Rattle.bm_base.specs.declared.round.RoundPart.{RoundPart}
use Rattle.bm_base.specs.Words.{Map, get, contains_key, Cluster, Holdings, by_replica, replica_at, has, level, level_number, is_at, without_expired, without_unordered_excess, with_surplus_marked, excess_in}
use Rattle.bm_maps.specs.SlotLists.{IsMember, Distinct}
use Rattle.bm_base.specs.Ordered.{by_pair}
use Rattle.bm_base.specs.RoundParts.{holdings_at_choice, expired, round_part, wish_of, wish_at, wish_key, delete_key}
use Rattle.bm_base.proofs.MapEntries.{get_revised}
use Rattle.bm_base.proofs.Options.{there, is_there, chained}
use Rattle.bm_base.proofs.SortedParts.{wish_is}
use Rattle.bm_arena.specs.Triplets.{Block}
use Rattle.bm_arena.specs.Contents.{Contents, block_at, slot_of, marks_at, IsLawful}
use Rattle.bm_arena.specs.HeldMaps.{info_at, replicas_of, id_at}
use Rattle.bm_arena.proofs.HeldReplicas.{get-replicas_of, get-blocks_of}
use Rattle.bm_parts.specs.SettledBlocks.{IsSettled}
use Rattle.bm_parts.specs.BoundedWishes.{is_before, wishes_before, part_before}
use Rattle.bm_parts.specs.Findings.{IsGathered, IsExpired, IsSurplus, IsRequested, IsDeletable}
use Rattle.bm_parts.proofs.SettledBlocks.{settled_is_left, settled_is_kept}
use Rattle.bm_parts.proofs.FoundLists.{one_wish, round_part_is_found, found_is_round_part}
use Rattle.bm_parts.proofs.EqualLists.{gathered_alike}
use Rattle.bm_pending.specs.PendingMap.{PendingMap, expired_of}
use Rattle.bm_levels.specs.Status.{is_settled_at, level_in}
use Rattle.bm_levels.specs.SlotHoldings.{holdings_with}
use Rattle.bm_levels.specs.IndexedLevels.{level_of_slot}
use Rattle.bm_levels.specs.LeveledBlocks.{Leveled, IsLeveled, AreLevels}
use Rattle.bm_levels.proofs.Levels.{level_is_at_slot}
use Rattle.bm_round_scan.specs.declared.scan.Findings.{Findings}
use Rattle.bm_round_scan.specs.ScannedSlots.{scanned_slots, key_at, keyed_at, has_enough_pending}
use Rattle.bm_round_scan.specs.BlockFindings.{wishes_at, HasFound, IsInOrder}
use Rattle.bm_round_scan.proofs.CollectedFindings.{gathered_of}
use Rattle.bm_round_scan.proofs.EnoughPending.{none_wished}
use Rattle.bm_round_scan.proofs.SettledBlocks.{settled_there}
use Rattle.bm_round_scan.proofs.BlockFindings.{excess_listed, wishes_listed, deletes_listed, wish_level}
use Rattle.bm_round_scan.proofs.PassingElements.{Passing, passing_listed, passing_gathered}
use Rattle.bm_round_scan.proofs.Permutations.{among_moved, among_before, distinct_moved}
use Rattle.bm_round_scan.proofs.ScannedSlots.{AreListed, mapped_among, scanned_known_slot, ids_once, unsettled_scanned, level_scanned}

module _ (v : Leveled) (lawful : IsLawful v.arena) (leveled : IsLeveled v) (is : AreListed v.level_index) (C : Cluster) (levels : AreLevels C v) (pend r : ℕ) (way : PendingMap) where
  abbrev a : Contents
  a = v.arena

  abbrev pending : Map by_replica ℕ
  pending = way.map

  abbrev has_enough : ℕ → Bool
  has_enough = has_enough_pending C pend r a way

  abbrev H : Holdings
  H = holdings_with a pending

  abbrev U : Holdings
  U = without_unordered_excess (without_expired pend r H)

  abbrev G : Holdings
  G = holdings_at_choice C pend r H

  own_id : (b slot : ℕ) → slot_of a b ≡ Some slot → id_at a slot ≡ b
  own_id b slot here = let found = lawful.found b slot here in ap (λ o. option_map_or (λ (k : Block). k.id) o 0) found.2 ∙ found.3

  -- The blocks of replicas, and the slots of blocks.

  was_counted : (q : ReplicaId) (m : Marks) → get U.replicas q ≡ Some m → (k : Marks) × (get H.replicas q ≡ Some k)
  unfolding without_unordered_excess without_expired
  was_counted q m e = let was = get_revised H.replicas (λ _ m. if m.ordered then m else record m { excess = false }) q m e in (was.0, was.1)

  was_marked : (q : ReplicaId) (m : Marks) → get G.replicas q ≡ Some m → (k : Marks) × (get H.replicas q ≡ Some k)
  unfolding holdings_at_choice with_surplus_marked
  was_marked q m e =
      let was = get_revised U.replicas (λ q m. if has (excess_in C U q.block) q.storage then record m { excess = true } else m) q m e in
      was_counted q was.0 was.1

  slot_of_replica : (q : ReplicaId) (m : Marks) → get H.replicas q ≡ Some m → (slot : ℕ) × (slot_of a q.block ≡ Some slot)
  unfolding holdings_with
  slot_of_replica q m e = let one = chained (λ slot. marks_at a slot q.storage) (slot_of a q.block) m (sym (get-replicas_of a q) ∙ e) in (one.0, one.1)

  slot_of_block : (b : ℕ) (i : BlockInfo) → get G.blocks b ≡ Some i → (slot : ℕ) × (slot_of a b ≡ Some slot)
  unfolding holdings_at_choice with_surplus_marked without_unordered_excess without_expired holdings_with
  slot_of_block b i e = let one = chained (λ slot. info_at a slot) (slot_of a b) i (sym (get-blocks_of a b) ∙ e) in (one.0, one.1)

  -- a block without a usable replica has no wish
  none_unusable : (b : ℕ) (w : Wish) → wish_at C G NoUsableReplica b ≡ Some w → ⊥
  unfolding wish_at
  none_unusable b w e = never (is_at NoUsableReplica (level C G b)) (get G.blocks b) e
    where
      never : (t : Bool) (o : Option BlockInfo) → (if t then option_and_then (λ i. if nat_lt 0 0 then Some (wish_of C G NoUsableReplica b i) else None) o else None) ≡ Some w → ⊥
      never true None f = false≢true (ap is_some f)
      never true (Some i) f = false≢true (ap is_some f)
      never false o f = false≢true (ap is_some f)

  wish_usable : (l : Level) (b : ℕ) (w : Wish) → wish_at C G l b ≡ Some w → l ≢ NoUsableReplica
  wish_usable l b w e same = none_unusable b w (ap (λ k. wish_at C G k b) (sym same) ∙ e)

  -- a settled block with a wish lacks pending transfers
  wish_lacks : (w : Wish) (slot : ℕ) → slot_of a w.block ≡ Some slot → IsSettled H w.block → IsRequested C G w → has_enough slot ≡ false
  wish_lacks w slot here settled wished =
      elim (cases_Bool (has_enough slot)) [
        | inl enough ↦ absurd (none_wished C pend r a way lawful w.block slot here settled enough w.level w wished)
        | inr lacks ↦ lacks
      ]

  known_storage : ((q : ReplicaId) → IsSome (get (replicas_of a) q) → IsTrue (contains_key C.storages q.storage)) → (q : ReplicaId) (m : Marks) → get G.replicas q ≡ Some m → contains_key C.storages q.storage ≡ true
  unfolding holdings_with
  known_storage stored q m e = let k = was_marked q m e in stored q (is_there (get H.replicas q) k.0 k.1)

  same_expired : expired_of pend r pending ≡ (round_part C pend r H).expired
  unfolding round_part expired holdings_with
  same_expired = refl

  -- The scanned slots, in any order.

  module _ (bound : Option (ℕ × ℕ)) (keyed : List ((ℕ × ℕ) × ℕ)) (moved : IsPermutation (map (keyed_at v.level_index v.arena) (scanned_slots v.level_index v.arena bound has_enough)) keyed) where
    abbrev scanned : List ℕ
    scanned = scanned_slots v.level_index a bound has_enough

    abbrev ids : List ℕ
    ids = map (λ (e : (ℕ × ℕ) × ℕ). id_at a e.1) keyed

    without_keys : {X : Type 0} (f : ℕ → X) (ss : List ℕ) → map (λ (e : (ℕ × ℕ) × ℕ). f e.1) (map (λ s. (key_at v.level_index a s, s)) ss) ≡ map f ss
    without_keys f [] = refl
    without_keys f (s ∷ ss) = ap (λ xs. f s ∷ xs) (without_keys f ss)

    same_slots : (ss : List ℕ) → map (λ (s : ℕ). s) ss ≡ ss
    same_slots [] = refl
    same_slots (s ∷ ss) = ap (λ xs. s ∷ xs) (same_slots ss)

    ids_moved : IsPermutation (map (id_at a) scanned) ids
    ids_moved = subst (λ xs. IsPermutation xs ids) (without_keys (id_at a) scanned) (IsPermutation-map (λ (e : (ℕ × ℕ) × ℕ). id_at a e.1) _ keyed moved)

    slots_moved : IsPermutation scanned (map (λ (e : (ℕ × ℕ) × ℕ). e.1) keyed)
    slots_moved = subst (λ xs. IsPermutation xs (map (λ (e : (ℕ × ℕ) × ℕ). e.1) keyed)) (without_keys (λ s. s) scanned ∙ same_slots scanned) (IsPermutation-map (λ (e : (ℕ × ℕ) × ℕ). e.1) _ keyed moved)

    -- each of these slots is that of its block's number
    pub scanned_known : (slot : ℕ) → IsMember slot (map (λ (e : (ℕ × ℕ) × ℕ). e.1) keyed) → slot_of a (id_at a slot) ≡ Some slot
    scanned_known slot h = scanned_known_slot v lawful leveled is bound has_enough slot (among_before scanned (map (λ (e : (ℕ × ℕ) × ℕ). e.1) keyed) slots_moved slot h)

    once : Distinct ids
    once = distinct_moved (map (id_at a) scanned) ids ids_moved (ids_once v lawful leveled is bound has_enough)

    scanned_id : (b slot : ℕ) → slot_of a b ≡ Some slot → IsMember slot scanned → IsMember b ids
    scanned_id b slot here h =
        among_moved (map (id_at a) scanned) ids ids_moved b
        (let P : ℕ → Type 0 = λ c. IsMember c (map (id_at a) scanned) in subst P (own_id b slot here) (mapped_among (id_at a) slot scanned h))

    -- a block with a slot is settled or is scanned
    settled_or : (b slot : ℕ) → slot_of a b ≡ Some slot → IsSettled H b ⊎ IsMember b ids
    settled_or b slot here =
        elim (cases_Bool (is_settled_at (block_at a slot))) [
          | inl settled ↦ inl (settled_there a pending lawful b slot here settled)
          | inr loose ↦ (let there = (leveled.unsettled slot).1 loose in
              inr (scanned_id b slot here (unsettled_scanned v.level_index is a bound has_enough slot there)))
        ]

    covers_excess : (q : ReplicaId) → IsSurplus C U q → IsMember q.block ids
    covers_excess q many =
        let m = there (get U.replicas q) many.0 in
        let k = was_counted q m.0 m.1 in
        let slot = slot_of_replica q k.0 k.1 in
        elim (settled_or q.block slot.0 slot.1) [
          | inl settled ↦ absurd (false≢true (ap (λ ss. has ss q.storage) (sym (settled_is_left C pend r H q.block settled).0) ∙ many.1))
          | inr visited ↦ visited
        ]

    covers_deletes : (d : Delete) → IsDeletable C G d → IsMember d.block ids
    covers_deletes d gone =
        let q : ReplicaId = replica_at d.block d.storage in
        let k = was_marked q gone.1.0 gone.1.1 in
        let slot = slot_of_replica q k.0 k.1 in
        elim (settled_or d.block slot.0 slot.1) [
          | inl settled ↦ absurd (false≢true (sym (settled_is_kept C pend r H q gone.1.0 settled gone.1.1) ∙ gone.1.2))
          | inr visited ↦ visited
        ]

    covers_wishes : (w : Wish) → IsRequested C G w → is_before bound (wish_key w) ≡ true → IsMember w.block ids
    covers_wishes w wished early =
        let known = wish_is C G w.level w.block w wished in
        let slot = slot_of_block w.block known.0 known.1 in
        elim (settled_or w.block slot.0 slot.1) [
          | inl settled ↦ (
              let at : level_of_slot v.level_index slot.0 ≡ Some w.level =
              levels slot.0 ∙ sym (ap (option_and_then (λ s. level_in C (block_at a s))) slot.1) ∙ sym (level_is_at_slot C a pending w.block lawful) ∙ sym (settled_is_left C pend r H w.block settled).3 ∙ wish_level C pend r H w.level w.block w wished in
              let key : key_at v.level_index a slot.0 ≡ wish_key w = (λ j. (option_map_or level_number (at j) 5, own_id w.block slot.0 slot.1 j)) in
              scanned_id w.block slot.0 slot.1 (level_scanned v.level_index is a bound has_enough w.level slot.0 (wish_usable w.level w.block w wished) at (ap (is_before bound) key ∙ early) (wish_lacks w slot.0 slot.1 settled wished)))
          | inr visited ↦ visited
        ]

    pub all_found : ((q : ReplicaId) → IsSome (get (replicas_of a) q) → IsTrue (contains_key C.storages q.storage)) → (f : Findings) → HasFound C pend r H bound ids f → (p : RoundPart) → p.expired ≡ expired_of pend r pending
        → IsInOrder by_replica (λ (q : ReplicaId). q) f.excess.items p.excess → IsInOrder by_pair wish_key f.wishes.items p.wishes → IsInOrder by_pair delete_key f.deletes.items p.deletes
        → p ≡ part_before bound (round_part C pend r H)
    all_found stored f has p old excess wishes deletes =
        let full : RoundPart = round_part C pend r H in
        let found = round_part_is_found C pend r H in
        let P : Wish → Type 0 = IsRequested C G in
        let same : record p { wishes = full.wishes } ≡ full =
        found_is_round_part C pend r H (record p { wishes = full.wishes }) (record {
          expired = subst (IsGathered by_replica (λ (q : ReplicaId). q) (IsExpired pend r H)) (sym (old ∙ same_expired)) found.expired;
          excess = gathered_of by_replica (λ (q : ReplicaId). q) (λ q. q.block) (IsSurplus C U) _ (excess_listed C pend r H) ids p.excess once covers_excess (subst (λ xs. IsInOrder by_replica (λ (q : ReplicaId). q) xs p.excess) has.excess excess);
          wishes = found.wishes;
          deletes = gathered_of by_pair delete_key (λ (d : Delete). d.block) (IsDeletable C G) _ (deletes_listed C pend r H (known_storage stored)) ids p.deletes once covers_deletes (subst (λ xs. IsInOrder by_pair delete_key xs p.deletes) has.deletes deletes);
        }) in
        let mine =
        gathered_of by_pair wish_key (λ (w : Wish). w.block) (Passing by_pair wish_key (is_before bound) P) (λ b. wishes_before bound (wishes_at C pend r H b))
        (passing_listed by_pair wish_key (is_before bound) (λ (w : Wish). w.block) P (wishes_at C pend r H) (wishes_listed C pend r H)) ids p.wishes once (λ w p. covers_wishes w p.0 p.1)
        (subst (λ xs. IsInOrder by_pair wish_key xs p.wishes) has.wishes wishes) in
        let cut : p.wishes ≡ wishes_before bound full.wishes =
        gathered_alike by_pair wish_key (Passing by_pair wish_key (is_before bound) P) (λ u w pu pw alike. one_wish C G u w pu.0 pw.0 alike) p.wishes (wishes_before bound full.wishes) mine
        (passing_gathered by_pair wish_key (is_before bound) P full.wishes found.wishes) in
        λ j. record { expired = (same j).expired; excess = (same j).excess; wishes = cut j; deletes = (same j).deletes }
