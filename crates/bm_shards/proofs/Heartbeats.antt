-- A heartbeat that is not refused changes no holdings and keeps all shards up to date.
use Rattle.std.specs.Prelude.{◌≡◌, ℕ, None, List, [], ◌∷◌}
use Rattle.std.proofs.Common.{sym, ap, subst, ◌∙◌}
use Rattle.bm_base.specs.declared.event.Event.{Event}
use Rattle.bm_base.specs.declared.event.Event.TheVariants.{Heartbeat}
use Rattle.bm_base.specs.declared.event.Remaining.{Remaining}
use Rattle.bm_base.specs.Words.{Cluster, Holdings, change_cluster, change_holdings, first_of, cluster_checks}
use Rattle.bm_base.specs.Promises.Lawful.{IsLawfulCluster}
use Rattle.bm_parts.proofs.ClusterLevels.{heartbeat_leaves_levels}
use Rattle.bm_parts.proofs.WellPlaced.{event_keeps_placed}
use Rattle.bm_shard.specs.ShardView.{Seen}
use Rattle.bm_shard.specs.UpToDate as shard
use Rattle.bm_shards.specs.Whole.{Whole, AreUpToDate, IsUpToDate}

module _ (C : Cluster) (n : ℕ) (rs : List Remaining) (lawful : IsLawfulCluster C) (fine : first_of (cluster_checks C (Heartbeat n rs)) ≡ None) where
  one_up_to_date : (S : Seen) → shard.IsUpToDate C S → shard.IsUpToDate (change_cluster C (Heartbeat n rs)) S
  unfolding change_cluster change_holdings
  one_up_to_date S h = record {
    levels = λ b. h.levels b ∙ sym (heartbeat_leaves_levels C rs S.holdings b);
    placed = event_keeps_placed C S.holdings (Heartbeat n rs) 0 1 lawful fine h.placed;
  }

  each_up_to_date : (ss : List (ℕ × Seen)) → AreUpToDate C ss → AreUpToDate (change_cluster C (Heartbeat n rs)) ss
  each_up_to_date [] h = tt
  each_up_to_date (s ∷ ss) h = (one_up_to_date s.1 h.0, each_up_to_date ss h.1)

pub heartbeat_up_to_date : (C : Cluster) (e : Event) (n : ℕ) (rs : List Remaining) (F : Whole) → e ≡ Heartbeat n rs → IsLawfulCluster C → first_of (cluster_checks C e) ≡ None → IsUpToDate C F
    → IsUpToDate (change_cluster C e) F
unfolding IsUpToDate
heartbeat_up_to_date C e n rs F is lawful fine h =
    subst (λ x. AreUpToDate (change_cluster C x) F.shards) (sym is) (each_up_to_date C n rs lawful (subst (λ x. first_of (cluster_checks C x) ≡ None) is fine) F.shards h)

pub holdings_after_heartbeat : (C : Cluster) (H : Holdings) (e : Event) (n : ℕ) (rs : List Remaining) → e ≡ Heartbeat n rs → H ≡ change_holdings C H e
unfolding change_holdings
holdings_after_heartbeat C H e n rs is = ap (λ x. change_holdings C H x) (sym is)
