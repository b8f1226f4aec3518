-- When a node begins to drain, only transfers to it are dropped; when it stops draining, none are.
use Rattle.std.proofs.Common.{◌≡◌, ℕ, Bool, true, false, not, Some, None, refl, sym, ap, ◌∙◌}
use Rattle.std.specs.Prelude.{◌&&◌, if◌then◌else◌}
use Rattle.std.specs.Option.{unwrap_or}
use Rattle.std.proofs.lemmas.Bool.{false≢true}
use Rattle.bm_base.specs.Words.{Map, keep, contains_key, Cluster, Holdings, by_replica, has_storage, drains, begin_drain, knows_node, done, new_replicas}
use Rattle.bm_base.specs.Promises.Lawful.{IsLawfulCluster}
use Rattle.bm_arena.specs.Contents.{Contents}
use Rattle.bm_levels.specs.SlotHoldings.{holdings_with}
use Rattle.bm_shard.proofs.Counts.{same_replicas}

-- whether a node drains, if it is known
pub drains_known : (C : Cluster) (n : ℕ) → IsLawfulCluster C → unwrap_or (if knows_node C n then Some (drains C n) else None) false ≡ drains C n
unfolding knows_node
drains_known C n lawful = by (contains_key C.nodes n) refl (drains C n) refl
  where
    by : (k : Bool) → contains_key C.nodes n ≡ k → (d : Bool) → drains C n ≡ d → unwrap_or (if k then Some d else None) false ≡ d
    by true e d f = refl
    by false e false f = refl
    by false e true f = absurd (false≢true (sym e ∙ lawful.draining_alive n f))

-- the holdings after a node begins or ceases to drain
pub turned : (C : Cluster) (a b : Contents) (P Q : Map by_replica ℕ) (n : ℕ) (d : Bool) → b ≡ a → Q ≡ (if d && not (drains C n) then keep P (λ q _. not (has_storage C n q.storage)) else P)
    → holdings_with b Q ≡ (if d then begin_drain C (holdings_with a P) n else holdings_with a P)
unfolding holdings_with begin_drain
turned C a b P Q n d e f = (λ i. holdings_with (e i) (f i)) ∙ by d (drains C n)
  where
    by : (x t : Bool) → holdings_with a (if x && not t then keep P (λ q _. not (has_storage C n q.storage)) else P)
        ≡ (if x then (if t then holdings_with a P else record (holdings_with a P) { pending = keep P (λ q _. not (has_storage C n q.storage)) }) else holdings_with a P)
    by false t = refl
    by true false = refl
    by true true = refl

pub nothing_came : (C : Cluster) (H : Holdings) (n : ℕ) (d : Bool) → record { added = 0; removed = 0 } ≡ done H (if d then begin_drain C H n else H)
unfolding done begin_drain
nothing_came C H n d = by d (drains C n)
  where
    nothing : (G : Holdings) → G.replicas ≡ H.replicas → record { added = 0; removed = 0 } ≡ done H G
    nothing G e i = record {
      added = (sym (same_replicas H.replicas) ∙ ap (λ m. new_replicas H.replicas m) (sym e)) i;
      removed = (sym (same_replicas H.replicas) ∙ ap (λ m. new_replicas m H.replicas) (sym e)) i;
    }

    by : (x t : Bool) → record { added = 0; removed = 0 } ≡ done H (if x then (if t then H else record H { pending = keep H.pending (λ q _. not (has_storage C n q.storage)) }) else H)
    by false t = nothing H refl
    by true true = nothing H refl
    by true false = nothing (record H { pending = keep H.pending (λ q _. not (has_storage C n q.storage)) }) refl
