-- Scanning one more block adds exactly its findings.
use Rattle.std.specs.Prelude.{◌≡◌, ℕ, Bool, true, false, nat_le, length, map, filter, List, [], ◌∷◌, ◌++◌, Option, option_and_then, option_to_list}
use Rattle.std.specs.Option.{option_map_or}
use Rattle.std.specs.List.{flat_map}
use Rattle.std.proofs.Common.{refl, sym, ◌∙◌}
use Rattle.std.proofs.lemmas.List.{flat_map_more}
use Rattle.bm_base.specs.declared.replica.BlockInfo.{BlockInfo}
use Rattle.bm_base.specs.declared.replica.Marks.{Marks}
use Rattle.bm_base.specs.declared.replica.ReplicaId.{ReplicaId}
use Rattle.bm_base.specs.declared.round.Wish.{Wish}
use Rattle.bm_base.specs.Words.{get, Cluster, Holdings, is_live_on, is_drained_on, live, drained, storages_where, has_enough_live, without_expired, without_unordered_excess, with_surplus_marked, pending_targets}
use Rattle.bm_base.specs.RoundParts.{holdings_at_choice}
use Rattle.bm_parts.specs.BoundedWishes.{wishes_before}
use Rattle.bm_arena.specs.Contents.{Contents}
use Rattle.bm_levels.specs.SlotHoldings.{holdings_with}
use Rattle.bm_levels.specs.Status.{storages_at}
use Rattle.bm_pending.specs.PendingMap.{PendingMap}
use Rattle.bm_pending.specs.RemainingTargets.{remaining_targets}
use Rattle.bm_round_scan.specs.declared.block_scan.BlockScan.{BlockScan}
use Rattle.bm_round_scan.specs.declared.scan.Findings.{Findings}
use Rattle.bm_round_scan.specs.declared.replicas.UsableReplicas.{UsableReplicas}
use Rattle.bm_round_scan.specs.BlockScans.{scanned_replicas, replicas_on, deletes_of, IsBlockScan, AreUsable}
use Rattle.bm_round_scan.specs.Requests.{wish_in, wish_by}
use Rattle.bm_round_scan.specs.BlockFindings.{excess_at, wishes_at, deletes_at, HasFound}
use Rattle.bm_round_scan.proofs.OwnReplicas.{storages_own}
use Rattle.bm_round_scan.proofs.OwnWish.{wish_known}

-- the result of the scan of a block
pub record IsSeen (C : Cluster) (l : BlockScan) (u : UsableReplicas) (e : Bool) : Type 0 where
  pub usable : AreUsable C l.replicas.items u
  pub enough : e ≡ option_map_or (λ (i : BlockInfo). nat_le i.repl (length u.live)) l.info false

-- the wish of the block by this scan
abbrev wish_seen : Cluster → ℕ → ℕ → PendingMap → BlockScan → UsableReplicas → Option Wish
wish_seen C pend r p l u = option_and_then (λ i. wish_by C l.id i u.live u.drained (storages_at (λ _ _. true) l.replicas.items) (remaining_targets pend r p l.id)) l.info

-- the findings of the block are appended
pub record IsPut (C : Cluster) (pend r : ℕ) (bound : Option (ℕ × ℕ)) (p : PendingMap) (l : BlockScan) (u : UsableReplicas) (e : Bool) (f g : Findings) : Type 0 where
  pub excess : g.excess.items ≡ f.excess.items ++ replicas_on l.excess.items (scanned_replicas l)
  pub wishes : g.wishes.items ≡ f.wishes.items ++ wishes_before bound (option_to_list (wish_seen C pend r p l u))
  pub deletes : g.deletes.items ≡ f.deletes.items ++ deletes_of e (scanned_replicas l)

module _ (C : Cluster) (pend r : ℕ) (a : Contents) (p : PendingMap) (l : BlockScan) (u : UsableReplicas) (e : Bool) (scan : IsBlockScan C pend r (holdings_with a p.map) l) (seen : IsSeen C l u e) where
  abbrev H : Holdings
  H = holdings_with a p.map

  abbrev G : Holdings
  G = holdings_at_choice C pend r H

  known_at_start : get G.blocks l.id ≡ get H.blocks l.id
  unfolding holdings_at_choice with_surplus_marked without_unordered_excess without_expired
  known_at_start = refl

  left_at_start : remaining_targets pend r p l.id ≡ pending_targets G l.id
  unfolding holdings_at_choice with_surplus_marked without_unordered_excess without_expired holdings_with pending_targets
  left_at_start = refl

  known : l.info ≡ get G.blocks l.id
  known = scan.info ∙ sym known_at_start

  lives_are : u.live ≡ live C G l.id
  lives_are = seen.usable.live ∙ storages_own (is_live_on C) G l.id l.replicas.items scan.replicas

  drained_are : u.drained ≡ drained C G l.id
  drained_are = seen.usable.drained ∙ storages_own (is_drained_on C) G l.id l.replicas.items scan.replicas

  pairs_are : storages_at (λ _ _. true) l.replicas.items ≡ storages_where (λ _ _. true) G l.id
  pairs_are = storages_own (λ _ _. true) G l.id l.replicas.items scan.replicas

  enough_is : e ≡ has_enough_live C G l.id
  unfolding has_enough_live
  enough_is = seen.enough ∙ (λ j. option_map_or (λ (i : BlockInfo). nat_le i.repl (length (lives_are j))) (known j) false)

  wish_is : wish_seen C pend r p l u ≡ wish_in C G l.id
  wish_is = (λ j. option_and_then (λ (i : BlockInfo). wish_by C l.id i (lives_are j) (drained_are j) (pairs_are j) (left_at_start j)) (known j)) ∙ wish_known C G l.id

  more : {X : Type 0} (f : ℕ → List X) (bs : List ℕ) (b : ℕ) → flat_map f bs ++ f b ≡ flat_map f (bs ++ b ∷ [])
  more f bs b = flat_map_more f [] bs b

  pub found_more : (bound : Option (ℕ × ℕ)) (f g : Findings) → IsPut C pend r bound p l u e f g → (bs : List ℕ) → HasFound C pend r H bound bs f → HasFound C pend r H bound (bs ++ l.id ∷ []) g
  found_more bound f g put bs has = record {
    excess = put.excess ∙ (λ j. has.excess j ++ map (λ (e : ReplicaId × Marks). e.0) (filter (λ e. scan.excess e.0.storage j) (scan.replicas j))) ∙ more (excess_at C pend r H) bs l.id;
    wishes = put.wishes ∙ (λ j. has.wishes j ++ wishes_before bound (option_to_list (wish_is j))) ∙ more (λ b. wishes_before bound (wishes_at C pend r H b)) bs l.id;
    deletes = put.deletes ∙ (λ j. has.deletes j ++ deletes_of (enough_is j) (scan.replicas j)) ∙ more (deletes_at C pend r H) bs l.id;
  }
