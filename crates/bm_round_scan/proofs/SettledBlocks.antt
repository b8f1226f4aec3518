-- The only finding of a settled block is its wish.
use Rattle.std.specs.Prelude.{◌≡◌, ℕ, Bool, true, false, not, ◌&&◌, ◌==◌, map, filter, List, [], ◌∷◌, ◌++◌, Option, Some, option_and_then, option_to_list}
use Rattle.std.specs.Option.{option_map_or}
use Rattle.std.specs.Ordering.{nat_cmp}
use Rattle.std.specs.List.{flat_map}
use Rattle.std.specs.List.Sorted.{IsPermutation, IsSortedByKey}
use Rattle.std.proofs.Common.{refl, sym, ap, subst, ◌∙◌, eqb-true, append-nil}
use Rattle.std.proofs.lemmas.List.{flat_map_more}
use Rattle.bm_base.specs.declared.replica.BlockInfo.{BlockInfo}
use Rattle.bm_base.specs.declared.replica.ReplicaId.{ReplicaId}
use Rattle.bm_base.specs.declared.replica.Marks.{Marks}
use Rattle.bm_base.specs.Words.{Map, get, entries, Cluster, Holdings, by_replica, replica_at, is_draining, is_live_on, is_drained_on, live, drained, storages_where, has_enough_live, without_expired, without_unordered_excess, with_surplus_marked, mark_if_surplus, with_excess_reset, is_deletable, pending_targets}
use Rattle.bm_base.specs.RoundParts.{holdings_at_choice}
use Rattle.bm_base.proofs.ForEach.{each_then}
use Rattle.bm_base.proofs.ListTests.{filter_filter}
use Rattle.bm_base.proofs.MapEntries.{each_entry, get_kept}
use Rattle.bm_base.proofs.Slices.{none_pass}
use Rattle.bm_parts.specs.BoundedWishes.{wishes_before}
use Rattle.bm_parts.specs.SettledBlocks.{IsSettled}
use Rattle.bm_parts.proofs.Filters.{filtered_alike, filter_none, map_filter}
use Rattle.bm_parts.proofs.SettledBlocks.{settled_is_left, settled_is_kept}
use Rattle.bm_parts.proofs.Storages.{storages_revised}
use Rattle.bm_arena.specs.Triplets.{Block}
use Rattle.bm_arena.specs.Contents.{Contents, block_at, slot_of, IsLawful}
use Rattle.bm_arena.specs.HeldMaps.{info_at, replicas_at}
use Rattle.bm_arena.proofs.HeldReplicas.{get-blocks_of}
use Rattle.bm_levels.specs.Status.{is_settled_at, storages_at}
use Rattle.bm_levels.specs.SlotHoldings.{holdings_with}
use Rattle.bm_levels.proofs.SettledBlocks.{all_plain_at, few_at}
use Rattle.bm_pending.specs.PendingMap.{PendingMap}
use Rattle.bm_pending.specs.RemainingTargets.{remaining_targets}
use Rattle.bm_round_scan.specs.declared.scan.Findings.{Findings}
use Rattle.bm_round_scan.specs.BlockScans.{own_replicas, replicas_on, needs_delete}
use Rattle.bm_round_scan.specs.Requests.{wish_by}
use Rattle.bm_round_scan.specs.BlockFindings.{excess_at, wishes_at, deletes_at, HasFound}
use Rattle.bm_round_scan.proofs.OwnWish.{wish_known}
use Rattle.bm_round_scan.proofs.SortedStorages.{sorted_where}

-- a block whose entry at its slot is settled is settled
pub settled_there : (a : Contents) (pending : Map by_replica ℕ) → IsLawful a → (b slot : ℕ) → slot_of a b ≡ Some slot → is_settled_at (block_at a slot) ≡ true → IsSettled (holdings_with a pending) b
settled_there a pending lawful b slot here settled =
    let found = lawful.found b slot here in
    let k : Block = found.1 in
    let at : is_settled_at (Some k) ≡ true = ap is_settled_at (sym found.2) ∙ settled in
    record {
      all_plain = λ q m same e. all_plain_at a pending lawful b slot k here found.2 at q.storage m (ap (λ c. get (holdings_with a pending).replicas (replica_at c q.storage)) (sym same) ∙ e);
      few = few_at a pending lawful b slot k here found.2 at;
    }

-- the storages of a block's replicas that pass, if the test of a replica is a test of its storage
storages_passing : (q : ℕ → Bool) (p : ℕ → Marks → Bool) (H : Holdings) (b : ℕ) → ((k : ReplicaId) (m : Marks) → k.block ≡ b → get H.replicas k ≡ Some m → p k.storage m ≡ q k.storage)
    → filter q (storages_where (λ _ _. true) H b) ≡ storages_where p H b
unfolding storages_where
storages_passing q p H b same =
    let es = entries H.replicas in
    let own : ReplicaId × Marks → Bool = λ e. (e.0.block == b) && true in
    map_filter (λ (e : ReplicaId × Marks). e.0.storage) q (filter own es)
    ∙ ap (map (λ (e : ReplicaId × Marks). e.0.storage))
    (filter_filter (λ (e : ReplicaId × Marks). q e.0.storage) own es
    ∙ filtered_alike (λ e. own e && q e.0.storage) (λ e. (e.0.block == b) && p e.0.storage e.1) es
    (each_then (λ e. get H.replicas e.0 ≡ Some e.1) (λ e. (own e && q e.0.storage) ≡ ((e.0.block == b) && p e.0.storage e.1)) es (each_entry H.replicas) (λ e there. passes e there (e.0.block == b) refl)))
  where
    passes : (e : ReplicaId × Marks) → get H.replicas e.0 ≡ Some e.1 → (t : Bool) → (e.0.block == b) ≡ t → ((t && true) && q e.0.storage) ≡ (t && p e.0.storage e.1)
    passes e there true is = sym (same e.0 e.1 (eqb-true e.0.block b is) there)
    passes e there false is = refl

-- as a round begins, the block's replicas are on the same storages
all_left : (C : Cluster) (pend r : ℕ) (H : Holdings) (b : ℕ) → storages_where (λ _ _. true) (holdings_at_choice C pend r H) b ≡ storages_where (λ _ _. true) H b
unfolding holdings_at_choice with_surplus_marked without_unordered_excess without_expired storages_where
all_left C pend r H b =
    let U : Holdings = without_unordered_excess (without_expired pend r H) in
    storages_revised U (mark_if_surplus C U) (λ _ _. true) b (λ q m at there. refl)
    ∙ storages_revised (without_expired pend r H) (λ _ m. with_excess_reset m) (λ _ _. true) b (λ q m at there. refl)

module _ (C : Cluster) (pend r : ℕ) (a : Contents) (way : PendingMap) (lawful : IsLawful a) (b slot : ℕ) (here : slot_of a b ≡ Some slot) (settled_at : is_settled_at (block_at a slot) ≡ true) where
  abbrev H : Holdings
  H = holdings_with a way.map

  abbrev G : Holdings
  G = holdings_at_choice C pend r H

  settled : IsSettled H b
  settled = settled_there a way.map lawful b slot here settled_at

  none_excess : excess_at C pend r H b ≡ []
  none_excess =
      ap (λ ss. replicas_on ss (entries (own_replicas G b))) (settled_is_left C pend r H b settled).0
      ∙ ap (map (λ (e : ReplicaId × Marks). e.0)) (none_pass (entries (own_replicas G b)))

  stays : (q : ReplicaId) (m : Marks) → q.block ≡ b → get G.replicas q ≡ Some m → needs_delete (has_enough_live C G b) m ≡ false
  unfolding is_deletable
  stays q m at there =
      ap (λ c. needs_delete (has_enough_live C G c) m) (sym at) ∙ settled_is_kept C pend r H q m (subst (IsSettled H) (sym at) settled) there

  none_deleted : deletes_at C pend r H b ≡ []
  none_deleted =
      let es = entries (own_replicas G b) in
      let goes : ReplicaId × Marks → Bool = λ e. needs_delete (has_enough_live C G b) e.1 in
      ap (map (λ (e : ReplicaId × Marks). record { storage = e.0.storage; block = e.0.block }))
      (filter_none goes es
      (each_then (λ e. get (own_replicas G b) e.0 ≡ Some e.1) (λ e. goes e ≡ false) es (each_entry (own_replicas G b))
      (λ e there. let kept = get_kept G.replicas (λ q _. q.block == b) e.0 e.1 there in stays e.0 e.1 (eqb-true e.0.block b kept.1) kept.0)))

  more : {X : Type 0} (f : ℕ → List X) (bs : List ℕ) → flat_map f bs ++ f b ≡ flat_map f (bs ++ b ∷ [])
  more f bs = flat_map_more f [] bs b

  pub settled_more : (bound : Option (ℕ × ℕ)) (f g : Findings) → g.excess.items ≡ f.excess.items → g.deletes.items ≡ f.deletes.items → g.wishes.items ≡ f.wishes.items ++ wishes_before bound (wishes_at C pend r H b)
      → (bs : List ℕ) → HasFound C pend r H bound bs f → HasFound C pend r H bound (bs ++ b ∷ []) g
  settled_more bound f g excess deletes wishes bs has = record {
    excess = excess ∙ has.excess ∙ sym (append-nil (flat_map (excess_at C pend r H) bs)) ∙ ap (λ xs. flat_map (excess_at C pend r H) bs ++ xs) (sym none_excess) ∙ more (excess_at C pend r H) bs;
    wishes = wishes ∙ ap (λ xs. xs ++ wishes_before bound (wishes_at C pend r H b)) has.wishes ∙ more (λ b. wishes_before bound (wishes_at C pend r H b)) bs;
    deletes = deletes ∙ has.deletes ∙ sym (append-nil (flat_map (deletes_at C pend r H) bs)) ∙ ap (λ xs. flat_map (deletes_at C pend r H) bs ++ xs) (sym none_deleted) ∙ more (deletes_at C pend r H) bs;
  }

  left_at_start : remaining_targets pend r way b ≡ pending_targets G b
  unfolding holdings_at_choice with_surplus_marked without_unordered_excess without_expired holdings_with pending_targets
  left_at_start = refl

  known : info_at a slot ≡ get G.blocks b
  unfolding holdings_at_choice with_surplus_marked without_unordered_excess without_expired holdings_with
  known = sym (get-blocks_of a b ∙ ap (λ o. option_and_then (λ x. info_at a x) o) here)

  -- The block's wish, from the sorted storages at its slot.

  module _ (ys : List ℕ) (moved : IsPermutation (storages_at (λ _ _. true) (replicas_at a slot)) ys) (sorted : IsSortedByKey (λ (n : ℕ). n) nat_cmp ys) where
    held : ys ≡ storages_where (λ _ _. true) H b
    held =
        let found = lawful.found b slot here in
        sorted_where (λ _ _. true) a way.map lawful b slot found.1 here found.2 ys
        (subst (λ o. IsPermutation (storages_at (λ _ _. true) (option_map_or (λ (k : Block). k.replicas) o [])) ys) found.2 moved) sorted

    all_are : ys ≡ storages_where (λ _ _. true) G b
    all_are = held ∙ sym (all_left C pend r H b)

    lives_are : filter (λ s. not (is_draining C s)) ys ≡ live C G b
    lives_are =
        ap (filter (λ s. not (is_draining C s))) held
        ∙ storages_passing (λ s. not (is_draining C s)) (is_live_on C) H b (λ q m at there. ap (is_live_on C q.storage) (settled.all_plain q m at there))
        ∙ sym (settled_is_left C pend r H b settled).1

    drained_are : filter (is_draining C) ys ≡ drained C G b
    drained_are =
        ap (filter (is_draining C)) held
        ∙ storages_passing (is_draining C) (is_drained_on C) H b (λ q m at there. ap (is_drained_on C q.storage) (settled.all_plain q m at there))
        ∙ sym (settled_is_left C pend r H b settled).2

    pub wish_is : (info : Option BlockInfo) (lives others : List ℕ) → info ≡ info_at a slot → lives ≡ filter (λ s. not (is_draining C s)) ys → others ≡ filter (is_draining C) ys
        → option_to_list (option_and_then (λ i. wish_by C b i lives others ys (remaining_targets pend r way b)) info) ≡ wishes_at C pend r H b
    wish_is info lives others is live_is drained_is =
        ap option_to_list
        ((λ j. option_and_then (λ (i : BlockInfo). wish_by C b i ((live_is ∙ lives_are) j) ((drained_is ∙ drained_are) j) (all_are j) (left_at_start j)) ((is ∙ known) j)) ∙ wish_known C G b)
