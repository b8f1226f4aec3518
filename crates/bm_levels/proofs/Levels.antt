-- A block's level in an arena's holdings is that of the entry at its slot; none without a slot.
use Rattle.std.specs.Prelude.{◌≡◌, ℕ, Bool, false, List, length, filter_map, Option, Some, None, option_and_then}
use Rattle.std.specs.Option.{option_map_or}
use Rattle.std.proofs.Common.{refl, sym, ap, ◌∙◌}
use Rattle.bm_base.specs.declared.replica.Marks.{Marks}
use Rattle.bm_base.specs.declared.replica.BlockInfo.{BlockInfo}
use Rattle.bm_base.specs.Words.{Map, get, Cluster, Holdings, by_replica, replica_at, distinct, storages_where, live, drained, is_live_on, is_drained_on, rack_of, racks, is_multi_rack, level, level_of}
use Rattle.bm_base.specs.Spread.{spread}
use Rattle.bm_base.proofs.Distinct.{level_of-spread}
use Rattle.bm_base.proofs.Membership.{has_where, once_where}
use Rattle.bm_base.proofs.Sets.{racks_alike, AreAlike}
use Rattle.bm_arena.specs.Triplets.{Block}
use Rattle.bm_arena.specs.Contents.{Contents, block_at, slot_of, marks_at, find_marks, IsLawful}
use Rattle.bm_arena.proofs.HeldReplicas.{get-replicas_of, get-blocks_of}
use Rattle.bm_levels.specs.Status.{storages_at, level_in, level_by}
use Rattle.bm_levels.specs.SlotHoldings.{holdings_with}
use Rattle.bm_levels.proofs.EqualLists.{same_length, has_among, among_has, once_distinct, passing_distinct, passing_found}

module _ (a : Contents) (pending : Map by_replica ℕ) (lawful : IsLawful a) (b slot : ℕ) (k : Block) (here : slot_of a b ≡ Some slot) (block_there : block_at a slot ≡ Some k) where
  abbrev pub H : Holdings
  H = holdings_with a pending

  -- the replica of the block on a storage is the one in its list
  pub found_marks : (s : ℕ) → get H.replicas (replica_at b s) ≡ find_marks k.replicas s
  unfolding holdings_with
  found_marks s = get-replicas_of a (replica_at b s) ∙ ap (λ o. option_and_then (λ x. marks_at a x s) o) here ∙ ap (λ o. option_and_then (λ (z : Block). find_marks z.replicas s) o) block_there

  pub found_info : get H.blocks b ≡ k.info
  unfolding holdings_with
  found_info = get-blocks_of a b ∙ ap (λ o. option_and_then (λ x. option_and_then (λ (z : Block). z.info) (block_at a x)) o) here ∙ ap (λ o. option_and_then (λ (z : Block). z.info) o) block_there

  module _ (p : ℕ → Marks → Bool) where
    pub alike : AreAlike (storages_where p H b) (storages_at p k.replicas)
    alike s = has_where p H b s ∙ ap (λ o. option_map_or (p s) o false) (found_marks s) ∙ sym (passing_found p k.replicas (lawful.once slot k block_there) s)

    pub as_many : length (storages_where p H b) ≡ length (storages_at p k.replicas)
    as_many =
        same_length (storages_where p H b) (storages_at p k.replicas) (once_distinct (storages_where p H b) (once_where p H b)) (passing_distinct p k.replicas (lawful.once slot k block_there))
        (λ z h. has_among (storages_at p k.replicas) z (sym (alike z) ∙ among_has (storages_where p H b) z h))
        (λ z h. has_among (storages_where p H b) z (alike z ∙ among_has (storages_at p k.replicas) z h))

  level_here : (C : Cluster) → level C H b ≡ level_in C (Some k)
  unfolding level level_by racks
  level_here C =
      let lives = storages_at (is_live_on C) k.replicas in
      let others = length (storages_at (is_drained_on C) k.replicas) in
      ap (λ o. option_and_then (λ (i : BlockInfo). level_of (record { live = length (live C H b); drained = length (drained C H b); wanted = i.repl; racks = length (racks C (live C H b)); multi_rack = is_multi_rack C })) o) found_info
      ∙ ap (λ n. option_and_then (λ (i : BlockInfo). level_of (record { live = n; drained = length (drained C H b); wanted = i.repl; racks = length (racks C (live C H b)); multi_rack = is_multi_rack C })) k.info) (as_many (is_live_on C))
      ∙ ap (λ n. option_and_then (λ (i : BlockInfo). level_of (record { live = length lives; drained = n; wanted = i.repl; racks = length (racks C (live C H b)); multi_rack = is_multi_rack C })) k.info) (as_many (is_drained_on C))
      ∙ ap (λ rs. option_and_then (λ (i : BlockInfo). level_of (record { live = length lives; drained = others; wanted = i.repl; racks = length rs; multi_rack = is_multi_rack C })) k.info) (racks_alike C (live C H b) lives (alike (is_live_on C)))
      ∙ each k.info (length lives) others (filter_map (rack_of C) lives) (is_multi_rack C)
    where
      each : (o : Option BlockInfo) (n d : ℕ) (rs : List ℕ) (m : Bool)
          → option_and_then (λ (i : BlockInfo). level_of (record { live = n; drained = d; wanted = i.repl; racks = length (distinct rs); multi_rack = m })) o ≡ option_and_then (λ (i : BlockInfo). level_of (record { live = n; drained = d; wanted = i.repl; racks = spread rs; multi_rack = m })) o
      each None n d rs m = refl
      each (Some i) n d rs m = sym (level_of-spread n d i.repl rs m)

no_level : (C : Cluster) (H : Holdings) (b : ℕ) → get H.blocks b ≡ None → level C H b ≡ None
unfolding level
no_level C H b e = ap (λ o. option_and_then (λ (i : BlockInfo). level_of (record { live = length (live C H b); drained = length (drained C H b); wanted = i.repl; racks = length (racks C (live C H b)); multi_rack = is_multi_rack C })) o) e

pub level_is_at_slot : (C : Cluster) (a : Contents) (pending : Map by_replica ℕ) (b : ℕ) → IsLawful a
    → level C (holdings_with a pending) b ≡ option_and_then (λ slot. level_in C (block_at a slot)) (slot_of a b)
unfolding holdings_with
level_is_at_slot C a pending b lawful = by (slot_of a b) refl
  where
    by : (o : Option ℕ) → slot_of a b ≡ o → level C (holdings_with a pending) b ≡ option_and_then (λ slot. level_in C (block_at a slot)) o
    by None e = no_level C (holdings_with a pending) b (get-blocks_of a b ∙ ap (λ o. option_and_then (λ x. option_and_then (λ (z : Block). z.info) (block_at a x)) o) e)
    by (Some slot) e =
        let h = lawful.found b slot e in
        level_here a pending lawful b slot h.1 e h.2 C ∙ ap (level_in C) (sym h.2)
