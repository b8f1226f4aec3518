-- A round starts and ends in a part as in the whole, restricted to the part's blocks.
use Rattle.std.proofs.Common.{◌≡◌, ℕ, ◌-◌, Bool, true, false, cond, not, ◌&&◌, ◌||◌, List, [], ◌∷◌, map, filter, length, refl, sym, ap, ◌∙◌, eqb-true}
use Rattle.std.proofs.lemmas.Bool.{false≢true}
use Rattle.std.specs.Prelude.{◌==◌, if◌then◌else◌, nat_le, option_map, option_and_then}
use Rattle.std.specs.Option.{option_map_or}
use Rattle.std.specs.List.{list_any}
use Rattle.bm_base.specs.declared.replica.ReplicaId.{ReplicaId}
use Rattle.bm_base.specs.declared.replica.Marks.{Marks}
use Rattle.bm_base.specs.declared.replica.BlockInfo.{BlockInfo}
use Rattle.bm_base.specs.declared.commands.Transfer.{Transfer}
use Rattle.bm_base.specs.declared.commands.Delete.{Delete}
use Rattle.bm_base.specs.Words.{Map, Order, by_number, get, entries, keys, revise, insert_all, Cluster, Holdings, by_replica, replica_at, has, live, drained, is_live_on, is_drained_on, storages_where, has_enough_live, racks, is_multi_rack, is_stray, is_corrupt, level, level_of, without_expired, without_unordered_excess, excess_of, excess_in, with_surplus_marked, pending_targets, is_deletable, is_commanded, end_round}
use Rattle.bm_base.specs.Shards.{cut}
use Rattle.bm_parts.proofs.KeepLaws.{keep-keep}
use Rattle.bm_base.proofs.MapLaws.{entries-keep, get-revise}
use Rattle.bm_base.specs.RoundParts.{holdings_at_choice, own_transfers, own_deletes, round_on_part}
use Rattle.bm_parts.specs.RoundLaws as law
use Rattle.bm_parts.proofs.Filters.{filter_within, map_filter}
use Rattle.bm_parts.proofs.PartMaps.{part, part_is, get_in, get_out, part_revised, part_inserted_all, mapped_none}
use Rattle.bm_parts.proofs.Parts.{own, cut_to}

-- The part of a map in which each value changes by its key.
part_revised_by : {K X : Type 0} {o : Order K} (p : K → Bool) (m : Map o X) (f g : K → X → X) → ((q : K) → p q ≡ true → f q ≡ g q) → part p (revise m f) ≡ revise (part p m) g
part_revised_by p m f g same =
    part_is p (revise m f) (revise (part p m) g)
    (λ q t. get-revise m f q ∙ (λ i. option_map (same q t i) (sym (get_in p m q t) i)) ∙ sym (get-revise (part p m) g q))
    (λ q t. get-revise (part p m) g q ∙ mapped_none (g q) (get (part p m) q) (get_out p m q t))

module _ (index shards : ℕ) where
  abbrev mine : ℕ → Bool
  mine = own index shards

  abbrev cut_of : Holdings → Holdings
  cut_of H = cut H index shards

  at_block : (b c : ℕ) (t : Bool) → mine b ≡ true → ((c == b) && t) ≡ true → mine c ≡ true
  at_block b c t h e = by (c == b) refl e
    where
      by : (u : Bool) → (c == b) ≡ u → (u && t) ≡ true → mine c ≡ true
      by true f g = ap mine (eqb-true c b f) ∙ h
      by false f g = cc

  pub keys_cut : (H : Holdings) → keys (cut_of H).blocks ≡ filter mine (keys H.blocks)
  unfolding cut keys
  keys_cut H = ap (map (λ e. e.0)) (entries-keep by_number H.blocks (λ b _. mine b)) ∙ sym (map_filter (λ (e : ℕ × BlockInfo). e.0) mine (entries H.blocks))

  pub known_cut : (H : Holdings) (b : ℕ) → mine b ≡ true → get (cut_of H).blocks b ≡ get H.blocks b
  unfolding cut
  known_cut H b h = get_in mine H.blocks b h

  pub replicas_cut : (H : Holdings) → entries (cut_of H).replicas ≡ filter (λ e. mine e.0.block) (entries H.replicas)
  unfolding cut
  replicas_cut H = entries-keep by_replica H.replicas (λ q _. mine q.block)

  pub pending_cut : (H : Holdings) → entries (cut_of H).pending ≡ filter (λ e. mine e.0.block) (entries H.pending)
  unfolding cut
  pending_cut H = entries-keep by_replica H.pending (λ q _. mine q.block)

  -- Definitions on one block.

  pub storages_cut : (p : ℕ → Marks → Bool) (H : Holdings) (b : ℕ) → mine b ≡ true → storages_where p (cut_of H) b ≡ storages_where p H b
  unfolding storages_where
  storages_cut p H b h =
      ap (λ (es : List (ReplicaId × Marks)). map (λ e. e.0.storage) (filter (λ e. (e.0.block == b) && p e.0.storage e.1) es)) (replicas_cut H)
      ∙ ap (map (λ (e : ReplicaId × Marks). e.0.storage))
      (filter_within (λ (e : ReplicaId × Marks). mine e.0.block) (λ e. (e.0.block == b) && p e.0.storage e.1) (λ e. (e.0.block == b) && p e.0.storage e.1) (λ _ _. refl) (λ e t. at_block b e.0.block (p e.0.storage e.1) h t) (entries H.replicas))

  pub live_cut : (C : Cluster) (H : Holdings) (b : ℕ) → mine b ≡ true → live C (cut_of H) b ≡ live C H b
  live_cut C H b h = storages_cut (is_live_on C) H b h

  pub drained_cut : (C : Cluster) (H : Holdings) (b : ℕ) → mine b ≡ true → drained C (cut_of H) b ≡ drained C H b
  drained_cut C H b h = storages_cut (is_drained_on C) H b h

  pub targets_cut : (H : Holdings) (b : ℕ) → mine b ≡ true → pending_targets (cut_of H) b ≡ pending_targets H b
  unfolding pending_targets
  targets_cut H b h =
      ap (λ (es : List (ReplicaId × ℕ)). map (λ e. e.0.storage) (filter (λ e. e.0.block == b) es)) (pending_cut H)
      ∙ ap (map (λ (e : ReplicaId × ℕ). e.0.storage))
      (filter_within (λ (e : ReplicaId × ℕ). mine e.0.block) (λ e. e.0.block == b) (λ e. e.0.block == b) (λ _ _. refl) (λ e t. ap mine (eqb-true e.0.block b t) ∙ h) (entries H.pending))

  pub level_cut : (C : Cluster) (H : Holdings) (b : ℕ) → mine b ≡ true → level C (cut_of H) b ≡ level C H b
  unfolding level
  level_cut C H b h =
      λ j. option_and_then (λ i. level_of (record { live = length (live_cut C H b h j); drained = length (drained_cut C H b h j); wanted = i.repl; racks = length (racks C (live_cut C H b h j)); multi_rack = is_multi_rack C })) (known_cut H b h j)

  pub excess_cut : (C : Cluster) (H : Holdings) (b : ℕ) → mine b ≡ true → excess_in C (cut_of H) b ≡ excess_in C H b
  unfolding excess_in
  excess_cut C H b h = λ j. option_map_or (λ i. excess_of C (live_cut C H b h j) i.repl) (known_cut H b h j) []

  pub enough_cut : (C : Cluster) (H : Holdings) (b : ℕ) → mine b ≡ true → has_enough_live C (cut_of H) b ≡ has_enough_live C H b
  unfolding has_enough_live
  enough_cut C H b h = λ j. option_map_or (λ i. nat_le i.repl (length (live_cut C H b h j))) (known_cut H b h j) false

  pub deletable_cut : (C : Cluster) (H : Holdings) (q : ReplicaId) (m : Marks) → mine q.block ≡ true → is_deletable C (cut_of H) q m ≡ is_deletable C H q m
  unfolding is_deletable
  deletable_cut C H q m h = λ j. not m.ordered && (is_stray m.tag || m.excess || (is_corrupt m.tag && enough_cut C H q.block h j))

  -- The start of a round.

  unexpired_cut : (pend r : ℕ) (H : Holdings) → cut_of (without_expired pend r H) ≡ without_expired pend r (cut_of H)
  unfolding cut without_expired
  unexpired_cut pend r H =
      cut_to index shards (without_expired pend r H) (without_expired pend r (cut_of H)) refl refl (keep-keep H.pending (λ q _. mine q.block) (λ _ t. not (nat_le pend (r - t))))

  dropped_cut : (H : Holdings) → cut_of (without_unordered_excess H) ≡ without_unordered_excess (cut_of H)
  unfolding cut without_unordered_excess
  dropped_cut H =
      cut_to index shards (without_unordered_excess H) (without_unordered_excess (cut_of H)) refl
      (part_revised (λ q. mine q.block) H.replicas (λ _ m. if m.ordered then m else record m { excess = false })) refl

  marked_cut : (C : Cluster) (H : Holdings) → cut_of (with_surplus_marked C H) ≡ with_surplus_marked C (cut_of H)
  unfolding cut with_surplus_marked
  marked_cut C H =
      cut_to index shards (with_surplus_marked C H) (with_surplus_marked C (cut_of H)) refl
      (part_revised_by (λ q. mine q.block) H.replicas (λ q m. if has (excess_in C H q.block) q.storage then record m { excess = true } else m)
      (λ q m. if has (excess_in C (cut_of H) q.block) q.storage then record m { excess = true } else m)
      (λ q t. λ j m. if has (sym (excess_cut C H q.block t) j) q.storage then record m { excess = true } else m)) refl

  pub started_cut : (C : Cluster) (pend r : ℕ) (H : Holdings) → cut_of (holdings_at_choice C pend r H) ≡ holdings_at_choice C pend r (cut_of H)
  unfolding holdings_at_choice
  started_cut C pend r H =
      marked_cut C (without_unordered_excess (without_expired pend r H)) ∙ ap (with_surplus_marked C) (dropped_cut (without_expired pend r H) ∙ ap without_unordered_excess (unexpired_cut pend r H))

  -- The end of a round.

  commanded_own : (ds : List Delete) (q : ReplicaId) → mine q.block ≡ true → is_commanded ds q ≡ is_commanded (own_deletes index shards ds) q
  unfolding is_commanded
  commanded_own [] q h = refl
  commanded_own (d ∷ ds) q h =
      ap (λ b. ((d.storage == q.storage) && (d.block == q.block)) || b) (commanded_own ds q h) ∙ head (mine d.block) refl
    where
      head : (b : Bool) → mine d.block ≡ b
          → (((d.storage == q.storage) && (d.block == q.block)) || list_any (λ (e : Delete). (e.storage == q.storage) && (e.block == q.block)) (own_deletes index shards ds))
          ≡ list_any (λ (e : Delete). (e.storage == q.storage) && (e.block == q.block)) (cond b (d ∷ own_deletes index shards ds) (own_deletes index shards ds))
      head true e = refl
      head false e = ap (λ b. b || list_any (λ (e : Delete). (e.storage == q.storage) && (e.block == q.block)) (own_deletes index shards ds)) (other (d.storage == q.storage) (d.block == q.block) refl)
        where
          other : (a b : Bool) → (d.block == q.block) ≡ b → (a && b) ≡ false
          other a true f = absurd (false≢true (sym e ∙ ap mine (eqb-true d.block q.block f) ∙ h))
          other true false f = refl
          other false false f = refl

  pub finished_cut : (r : ℕ) (G : Holdings) (ts : List Transfer) (ds : List Delete) → cut_of (end_round r G ts ds) ≡ end_round r (cut_of G) (own_transfers index shards ts) (own_deletes index shards ds)
  unfolding cut end_round
  finished_cut r G ts ds =
      cut_to index shards (end_round r G ts ds) (end_round r (cut_of G) (own_transfers index shards ts) (own_deletes index shards ds)) refl
      (part_revised_by (λ q. mine q.block) G.replicas (λ q m. if is_commanded ds q then record m { ordered = true } else m) (λ q m. if is_commanded (own_deletes index shards ds) q then record m { ordered = true } else m)
      (λ q t. λ j m. if commanded_own ds q t j then record m { ordered = true } else m))
      (part_inserted_all (λ q. mine q.block) G.pending (map (λ t. (replica_at t.block t.target, r)) ts)
      ∙ ap (insert_all (part (λ q. mine q.block) G.pending)) (map_filter (λ (t : Transfer). (replica_at t.block t.target, r)) (λ e. mine e.0.block) ts))

  pub ended_cut : (C : Cluster) (pend r : ℕ) (H : Holdings) (ts : List Transfer) (ds : List Delete)
      → cut_of (end_round r (holdings_at_choice C pend r H) ts ds) ≡ round_on_part C pend r (cut_of H) index shards ts ds
  ended_cut C pend r H ts ds =
      finished_cut r (holdings_at_choice C pend r H) ts ds ∙ ap (λ G. end_round r G (own_transfers index shards ts) (own_deletes index shards ds)) (started_cut C pend r H)

pub start_cuts_to_start : law.start_cuts_to_start
start_cuts_to_start C pend r H index shards = started_cut index shards C pend r H

pub end_cuts_to_end : law.end_cuts_to_end
end_cuts_to_end C pend r H ts ds index shards = ended_cut index shards C pend r H ts ds
