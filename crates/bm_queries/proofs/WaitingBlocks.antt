-- A node is held back exactly if it drains and a block waits in the list of one of its storages.
use Rattle.std.proofs.Common.{◌≡◌, ℕ, Bool, true, false, not, ◌&&◌, List, [], ◌∷◌, length, filter, Option, Some, None, is_some, refl, sym, ap, inl, inr, ◌∙◌, arith}
use Rattle.std.specs.Prelude.{nat_lt, nat_le, option_and_then}
use Rattle.std.specs.Option.{option_map_or}
use Rattle.std.specs.Cmp.{both_ways}
use Rattle.std.specs.List.{list_any}
use Rattle.std.proofs.lemmas.Bool.{and_parts, and_from, or_left, or_right, false≢true}
use Rattle.std.proofs.lemmas.Bool.Decides.{nat_tests}
use Rattle.bm_base.specs.declared.replica.BlockInfo.{BlockInfo}
use Rattle.bm_base.specs.Words.{Map, get, keys, contains_key, Cluster, Holdings, by_replica, replica_at, has, node_of, has_storage, is_draining, is_usable, is_live_on, is_drained_on, live, drained, has_enough_live, is_held_back_by}
use Rattle.bm_maps.specs.SlotLists.{IsMember}
use Rattle.bm_base.proofs.Clusters.{some_node}
use Rattle.bm_base.proofs.ListTests.{has_filter}
use Rattle.bm_base.proofs.Options.{there, is_there, chained}
use Rattle.bm_base.proofs.Sets.{some_passing, passing_some, has_keys}
use Rattle.bm_base.proofs.Membership.{has_where}
use Rattle.bm_parts.specs.QueryLaws.{holds_back}
use Rattle.bm_arena.specs.Triplets.{Block}
use Rattle.bm_arena.specs.Contents.{block_at, slot_of, marks_at, find_marks, list_of, IsLawful}
use Rattle.bm_arena.specs.HeldMaps.{info_at}
use Rattle.bm_arena.proofs.HeldReplicas.{get-blocks_of}
use Rattle.bm_levels.specs.Status.{storages_at}
use Rattle.bm_levels.specs.SlotHoldings.{holdings_with}
use Rattle.bm_levels.specs.LeveledBlocks.{Leveled, IsLeveled}
use Rattle.bm_levels.proofs.EqualLists.{has_among}
use Rattle.bm_levels.proofs.Levels.{found_marks, found_info, as_many}
use Rattle.bm_queries.specs.ListedElements.{lacks_live, holds_back_at, holds_back_on, holds_back_node}
use Rattle.bm_queries.proofs.OwnBlocks.{own_listed}

passes_some : {X : Type 0} (p : X → Bool) (o : Option X) → option_map_or p o false ≡ true → (x : X) × (o ≡ Some x) × (p x ≡ true)
passes_some p None e = absurd (false≢true e)
passes_some p (Some x) e = (x, refl, e)

fewer : (l r : ℕ) → nat_lt l r ≡ not (nat_le r l)
fewer l r = grind (arith, nat_tests)

pub any_among : (t : ℕ → Bool) (xs : List ℕ) (x : ℕ) → IsMember x xs → t x ≡ true → list_any t xs ≡ true
any_among t [] x there e = absurd there
any_among t (y ∷ ys) x there e =
    elim there [
      | inl same ↦ or_left (t y) (list_any t ys) (ap t (sym same) ∙ e)
      | inr later ↦ or_right (t y) (list_any t ys) (any_among t ys x later e)
    ]

some_among : (t : ℕ → Bool) (xs : List ℕ) → list_any t xs ≡ true → (x : ℕ) × IsMember x xs × (t x ≡ true)
some_among t xs e = let s = some_passing t xs e in (s.0, has_among xs s.0 s.1, s.2)

known_storage : (C : Cluster) (n s : ℕ) → has_storage C n s ≡ true → contains_key C.storages s ≡ true
unfolding has_storage
known_storage C n s e = let m = passes_some _ (node_of C s) e in sym (some_node C s) ∙ is_there (node_of C s) m.0 m.1

module _ (C : Cluster) (n : ℕ) (v : Leveled) (lawful : IsLawful v.arena) (leveled : IsLeveled v) (pending : Map by_replica ℕ) where
  abbrev H : Holdings
  H = holdings_with v.arena pending

  module _ (b slot : ℕ) (k : Block) (here : slot_of v.arena b ≡ Some slot) (block_there : block_at v.arena slot ≡ Some k) where
    marks_here : (s : ℕ) → marks_at v.arena slot s ≡ get H.replicas (replica_at b s)
    marks_here s = ap (λ o. option_and_then (λ (z : Block). find_marks z.replicas s) o) block_there ∙ sym (found_marks v.arena pending lawful b slot k here block_there s)

    lacks_is : (i : BlockInfo) → get H.blocks b ≡ Some i → lacks_live C (block_at v.arena slot) ≡ not (has_enough_live C H b)
    unfolding has_enough_live
    lacks_is i known =
        let info : k.info ≡ Some i = sym (found_info v.arena pending lawful b slot k here block_there) ∙ known in
        let many = as_many v.arena pending lawful b slot k here block_there (is_live_on C) in
        ap (lacks_live C) block_there
        ∙ ap (λ o. option_map_or (λ (i : BlockInfo). nat_lt (length (storages_at (is_live_on C) k.replicas)) i.repl) o false) info
        ∙ fewer (length (storages_at (is_live_on C) k.replicas)) i.repl
        ∙ ap (λ l. not (nat_le i.repl l)) (sym many)
        ∙ sym (ap (λ o. not (option_map_or (λ (i : BlockInfo). nat_le i.repl (length (live C H b))) o false)) known)

    lacks_known : lacks_live C (block_at v.arena slot) ≡ true → (i : BlockInfo) × (get H.blocks b ≡ Some i)
    lacks_known e =
        let i = passes_some (λ (i : BlockInfo). nat_lt (length (storages_at (is_live_on C) k.replicas)) i.repl) k.info (sym (ap (lacks_live C) block_there) ∙ e) in
        (i.0, found_info v.arena pending lawful b slot k here block_there ∙ i.1)

  -- a block that holds the node back waits in a list
  then_waits : (b : ℕ) → contains_key H.blocks b ≡ true → is_held_back_by C H n b ≡ true → (s : ℕ) × (has_storage C n s ≡ true) × (holds_back_node C v.arena s ≡ true)
  unfolding is_held_back_by holdings_with
  then_waits b known held =
      let a = v.arena in
      let two = and_parts (list_any (has_storage C n) (drained C H b)) (not (has_enough_live C H b)) held in
      let at = some_passing (has_storage C n) (drained C H b) two.0 in
      let s = at.0 in
      let m = passes_some (is_drained_on C s) (get H.replicas (replica_at b s)) (sym (has_where (is_drained_on C) H b s) ∙ at.1) in
      let parts = and_parts (is_usable m.0) (is_draining C s) m.2 in
      let i = there (get H.blocks b) known in
      let slot = chained (λ slot. info_at a slot) (slot_of a b) i.0 (sym (get-blocks_of a b) ∙ i.1) in
      let f = lawful.found b slot.0 slot.1 in
      let marks : marks_at a slot.0 s ≡ Some m.0 = marks_here b slot.0 f.1 slot.1 f.2 s ∙ m.1 in
      let waits : holds_back_at C a s slot.0 ≡ true =
      and_from (option_map_or is_usable (marks_at a slot.0 s) false) (lacks_live C (block_at a slot.0)) (ap (λ o. option_map_or is_usable o false) marks ∙ parts.0) (lacks_is b slot.0 f.1 slot.1 f.2 i.0 i.1 ∙ two.1) in
      let listed : IsMember slot.0 (list_of a s) = (lawful.exact slot.0 s).1 (ap is_some marks) in
      (s, at.2, and_from (is_draining C s) (holds_back_on C a s) parts.1 (any_among (holds_back_at C a s) (list_of a s) slot.0 listed waits))

  -- a block that waits holds the node back
  then_held : (s : ℕ) → has_storage C n s ≡ true → holds_back_node C v.arena s ≡ true → (b : ℕ) × (contains_key H.blocks b ≡ true) × (is_held_back_by C H n b ≡ true)
  unfolding is_held_back_by
  then_held s own_s waits =
      let a = v.arena in
      let two = and_parts (is_draining C s) (holds_back_on C a s) waits in
      let at = some_among (holds_back_at C a s) (list_of a s) two.1 in
      let slot = at.0 in
      let own = own_listed v lawful leveled s slot at.1 in
      let b = own.block.id in
      let parts = and_parts (option_map_or is_usable (marks_at a slot s) false) (lacks_live C (block_at a slot)) at.2 in
      let m = passes_some is_usable (marks_at a slot s) parts.0 in
      let i = lacks_known b slot own.block own.led own.here parts.1 in
      let marks : get H.replicas (replica_at b s) ≡ Some m.0 = sym (marks_here b slot own.block own.led own.here s) ∙ m.1 in
      let there : has (drained C H b) s ≡ true = has_where (is_drained_on C) H b s ∙ ap (λ o. option_map_or (is_drained_on C s) o false) marks ∙ and_from (is_usable m.0) (is_draining C s) m.2 two.0 in (
        b,
        is_there (get H.blocks b) i.0 i.1,
        and_from (list_any (has_storage C n) (drained C H b)) (not (has_enough_live C H b)) (passing_some (has_storage C n) (drained C H b) s there own_s)
            (sym (lacks_is b slot own.block own.led own.here i.0 i.1) ∙ parts.1),
      )

  abbrev own : List ℕ
  own = filter (has_storage C n) (keys C.storages)

  has_own : (s : ℕ) → has own s ≡ (has_storage C n s && contains_key C.storages s)
  has_own s = has_filter (has_storage C n) (keys C.storages) s ∙ ap (λ b. has_storage C n s && b) (has_keys C.storages s)

  pub held_back_is : list_any (holds_back_node C v.arena) own ≡ holds_back C n H
  unfolding holds_back
  held_back_is =
      both_ways (list_any (holds_back_node C v.arena) own) (list_any (is_held_back_by C H n) (keys H.blocks))
      (λ h.
      let s = some_passing (holds_back_node C v.arena) own h in
      let on = and_parts (has_storage C n s.0) (contains_key C.storages s.0) (sym (has_own s.0) ∙ s.1) in
      let b = then_held s.0 on.0 s.2 in
      passing_some (is_held_back_by C H n) (keys H.blocks) b.0 (has_keys H.blocks b.0 ∙ b.1) b.2)
      (λ h.
      let b = some_passing (is_held_back_by C H n) (keys H.blocks) h in
      let s = then_waits b.0 (sym (has_keys H.blocks b.0) ∙ b.1) b.2 in
      passing_some (holds_back_node C v.arena) own s.0 (has_own s.0 ∙ and_from (has_storage C n s.0) (contains_key C.storages s.0) s.1 (known_storage C n s.0 s.1)) s.2)
