-- If no block is listed with pending transfers, no transfer of any block stays pending.
use Rattle.std.specs.Prelude.{◌≡◌, ℕ, true, [], length, not, ◌==◌, filter, map, Option, Some, None, IsSome, is_some}
use Rattle.std.proofs.Common.{refl, sym, ap, ◌∙◌}
use Rattle.std.proofs.lemmas.Bool.{false≢true}
use Rattle.std.proofs.lemmas.List.{nil_from_length}
use Rattle.bm_base.specs.declared.replica.ReplicaId.{ReplicaId}
use Rattle.bm_base.specs.Words.{Map, get, empty, entries, by_replica, has, is_expired}
use Rattle.bm_base.proofs.MapLaws.{same_map, get-empty, entries-keep}
use Rattle.bm_pending.specs.PendingMap.{PendingMap, blocks_in}
use Rattle.bm_pending.specs.RemainingTargets.{remaining_targets}

module _ (p : PendingMap) (listed : (q : ReplicaId) → IsSome (get p.map q) → has (blocks_in p) q.block ≡ true) (none : length (blocks_in p) ≡ 0) where
  absent : (q : ReplicaId) (o : Option ℕ) → get p.map q ≡ o → o ≡ None
  absent q None e = refl
  absent q (Some t) e = absurd (false≢true (ap (λ bs. has bs q.block) (sym (nil_from_length (blocks_in p) none)) ∙ listed q (ap is_some e)))

  no_map : p.map ≡ empty
  no_map = same_map p.map empty (λ q. absent q (get p.map q) refl ∙ sym (get-empty {X = ℕ} by_replica q))

  no_entries : entries p.map ≡ []
  unfolding entries empty
  no_entries = ap (λ (m : Map by_replica ℕ). entries m) no_map

  -- so no transfer of a block stays pending
  pub none_left : (pend r b : ℕ) → [] ≡ remaining_targets pend r p b
  none_left pend r b =
      sym (ap (λ es. map (λ (e : ReplicaId × ℕ). e.0.storage) (filter (λ e. e.0.block == b) es))
      (entries-keep by_replica p.map (λ _ t. not (is_expired pend r t)) ∙ ap (filter (λ (e : ReplicaId × ℕ). not (is_expired pend r e.1))) no_entries))
