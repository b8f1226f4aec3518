-- A heartbeat of a known node that names only the node's own storages is not refused.
use Rattle.std.specs.Prelude.{◌≡◌, ℕ, false, not, ◌||◌, ◌==◌, List, [], ◌∷◌, Option, Some, None, is_some, option_map}
use Rattle.std.specs.Option.{option_map_or}
use Rattle.std.specs.List.{list_any}
use Rattle.std.proofs.Common.{refl}
use Rattle.std.proofs.lemmas.Bool.{or_parts}
use Rattle.bm_base.specs.declared.event.Remaining.{Remaining}
use Rattle.bm_base.specs.declared.event.Event.TheVariants.{Heartbeat}
use Rattle.bm_base.specs.declared.storage.StorageInfo.{StorageInfo}
use Rattle.bm_base.specs.Words.{get, Cluster, node_of, has_storage, first_of, cluster_checks, knows_node, knows_storage}

-- a storage of a node is known
own_known : (C : Cluster) (n s : ℕ) → not (has_storage C n s) ≡ false → not (knows_storage C s) ≡ false
unfolding has_storage node_of knows_storage
own_known C n s = by (get C.storages s)
  where
    by : (o : Option StorageInfo) → not (option_map_or (λ m. m == n) (option_map (λ (i : StorageInfo). i.node) o) false) ≡ false → not (is_some o) ≡ false
    by None e = e
    by (Some i) e = refl

all_known : (C : Cluster) (n : ℕ) (rs : List Remaining) → list_any (λ r. not (has_storage C n r.storage)) rs ≡ false → list_any (λ r. not (knows_storage C r.storage)) rs ≡ false
all_known C n [] e = refl
all_known C n (r ∷ rs) e =
    let both = or_parts (not (has_storage C n r.storage)) (list_any (λ (x : Remaining). not (has_storage C n x.storage)) rs) e in
    (λ i. own_known C n r.storage both.0 i || all_known C n rs both.1 i)

pub heartbeat_accepted : (C : Cluster) (n : ℕ) (rs : List Remaining) → not (knows_node C n) ≡ false → list_any (λ r. not (has_storage C n r.storage)) rs ≡ false
    → first_of (cluster_checks C (Heartbeat n rs)) ≡ None
unfolding cluster_checks
heartbeat_accepted C n rs known own = rw (known, all_known C n rs own, own) refl
