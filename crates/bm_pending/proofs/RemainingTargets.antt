-- The remaining targets of a block are its targets whose transfers are not expired.
use Rattle.std.specs.Prelude.{◌≡◌, ℕ, Bool, not, ◌==◌, List, map, filter, T}
use Rattle.std.specs.Ordering.{nat_cmp}
use Rattle.std.specs.FinMap.{is_sorted}
use Rattle.std.proofs.Common.{refl, sym, ap, ◌∙◌}
use Rattle.bm_base.specs.declared.replica.ReplicaId.{ReplicaId}
use Rattle.bm_base.specs.Words.{entries, is_expired}
use Rattle.bm_pending.specs.Inside.{PendingTargets, map_of, capacities_of, targets_at}
use Rattle.bm_pending.specs.RemainingTargets.{remaining_targets}
use Rattle.bm_pending.proofs.Blocks.{filtered-targets}
use Rattle.bm_pending.proofs.Changes.{map-kept, ascending-kept}
use Rattle.bm_pending.proofs.GroupedTransfers.{targets-seen}

module _ (es : List (ℕ × PendingTargets)) (rise : (q : ℕ) → T (is_sorted nat_cmp (targets_at es q))) (pend r : ℕ) where
  abbrev stays : ℕ × ℕ → Bool
  stays t = not (is_expired pend r t.1)

  -- the entries with those targets alone
  abbrev left : List (ℕ × PendingTargets)
  left = map (λ e. (e.0, record e.1 { items = filter stays e.1.items })) es

  left-targets : (q : ℕ) → targets_at left q ≡ filter stays (targets_at es q)
  left-targets q = filtered-targets es left stays refl q

  pub left-seen : (b : ℕ) → remaining_targets pend r (record { map = map_of es; capacities = capacities_of es }) b ≡ map (λ t. t.0) (filter stays (targets_at es b))
  left-seen b =
      ap (λ m. map (λ (e : ReplicaId × ℕ). e.0.storage) (filter (λ e. e.0.block == b) (entries m))) (sym (map-kept es left (λ _ t. not (is_expired pend r t)) left-targets rise))
      ∙ targets-seen left b (ascending-kept es left (λ _ t. not (is_expired pend r t)) left-targets rise).ascending
      ∙ ap (map (λ (t : ℕ × ℕ). t.0)) (left-targets b)
