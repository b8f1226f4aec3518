-- The storages of a cluster as targets of copies.
use Rattle.std.specs.Prelude.{◌≡◌, ℕ, true, refl, ◌+◌, ◌-◌, Bool, false, not, ◌&&◌, ◌==◌, nat_le, List, length, Option, Some}
use Rattle.std.specs.declared.cmp.Ordering.{Ordering}
use Rattle.std.specs.Ordering.{nat_cmp, ordering_then}
use Rattle.std.specs.Option.{option_map_or, IfSome}
use Rattle.std.specs.List.{list_any}
use Rattle.std.specs.Coded.{Coded, code_by, coded×, coded_ℕ, coded_bool, coded_option}
use Rattle.bm_base.specs.declared.replica.Level.{Level}
use Rattle.bm_base.specs.declared.replica.Level.TheVariants.{BadlyDistributed}
use Rattle.bm_base.specs.Words.{Map, by_number, keys, Cluster, has, node_of, rack_of, is_draining, racks, is_at, remaining, is_target, is_on_racks}
use Rattle.bm_place.specs.declared.scheduled_bytes.TargetRow.{TargetRow}
use Rattle.bm_place.specs.declared.replica_spread.ReplicaSpread.{ReplicaSpread}
use Rattle.bm_place.specs.ReplicaSpread.{class_by_spread, is_one}
use Rattle.bm_place.specs.Tables.{table}

-- a storage of the cluster as a target, where `sent` has the bytes scheduled to each storage
abbrev pub target_at : Cluster → (ℕ → ℕ) → ℕ → TargetRow
target_at C sent s = record { storage = s; node = node_of C s; rack = rack_of C s; is_draining = is_draining C s; remaining = remaining C s; scheduled = sent s }

-- the table of a cluster: all its storages as targets
abbrev pub target_table : Cluster → (ℕ → ℕ) → Map by_number TargetRow
target_table C sent = table (target_at C sent) (keys C.storages)

-- the remaining bytes less those scheduled to it: the same on rows as `free_bytes`
abbrev pub free_bytes_on : TargetRow → ℕ
free_bytes_on t = t.remaining - t.scheduled

-- the order of targets for a block with the spread w: the same on rows as `target_cmp`
abbrev pub cmp_targets : ReplicaSpread → TargetRow → TargetRow → Ordering
cmp_targets w s t =
    ordering_then (nat_cmp (class_by_spread w s.rack) (class_by_spread w t.rack)) (ordering_then (nat_cmp (free_bytes_on t) (free_bytes_on s)) (nat_cmp s.storage t.storage))

-- whether its node does not drain, the length fits, and a badly distributed block that is held on
-- one rack would get to another one
abbrev pub is_eligible : ReplicaSpread → Level → ℕ → TargetRow → Bool
is_eligible w urgency len t = not t.is_draining && nat_le (len + t.scheduled) t.remaining && not (is_at BadlyDistributed (Some urgency) && is_one w.racks && (class_by_spread w t.rack == 1))

-- whether it is on the node of one of these storages: the same on rows as `is_excluded`
unfoldable pub is_excluded_by : Cluster → List ℕ → TargetRow → Bool
is_excluded_by C excluded t = list_any (λ b. option_map_or (λ n. option_map_or (λ m. m == n) t.node false) (node_of C b) false) excluded

-- whether it may be taken: the same on rows as `is_target`
abbrev pub is_available : Cluster → ReplicaSpread → Level → List ℕ → ℕ → TargetRow → Bool
is_available C w urgency excluded len t = is_eligible w urgency len t && not (is_excluded_by C excluded t)

abbrev pub coded_target : Coded TargetRow
coded_target =
    code_by (ℕ × (Option ℕ × (Option ℕ × (Bool × (ℕ × ℕ)))))
    (coded× coded_ℕ (coded× (coded_option coded_ℕ) (coded× (coded_option coded_ℕ) (coded× coded_bool (coded× coded_ℕ coded_ℕ)))))
    (λ t. (t.storage, (t.node, (t.rack, (t.is_draining, (t.remaining, t.scheduled))))))
    (λ u. record { storage = u.0; node = u.1.0; rack = u.1.1.0; is_draining = u.1.1.1.0; remaining = u.1.1.1.1.0; scheduled = u.1.1.1.1.1 }) (λ _. refl)

-- whether a storage is on none of the racks of these
abbrev pub is_off_racks : Cluster → List ℕ → ℕ → Bool
is_off_racks C holders s = not (is_on_racks C (racks C holders) s)

-- if the block is held on one rack, and a storage off that rack is eligible, the result is off that
-- rack
abbrev pub LeavesRack : Cluster → (ℕ → ℕ) → Level → List ℕ → List ℕ → ℕ → Option ℕ → Type 0
LeavesRack C sent urgency holders excluded len found =
    length (racks C holders) ≡ 1 → (t : ℕ) → has (keys C.storages) t ≡ true → is_target C sent (record { urgency = urgency; holders = holders; excluded = excluded; len = len }) t ≡ true → is_off_racks C holders t ≡ true
    → IfSome found (λ s. is_off_racks C holders s ≡ true)
