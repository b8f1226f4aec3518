-- Rows are ordered and tested as the storages of which they are made.
use Rattle.std.specs.Prelude.{◌-◌, nat_le, not}
use Rattle.std.proofs.Common.{◌≡◌, ℕ, ◌+◌, Bool, true, false, ◌&&◌, List, Some, refl, sym, ◌∙◌, ◌==◌}
use Rattle.std.specs.Ordering.{nat_cmp, ordering_then}
use Rattle.std.specs.Cmp.{IsTotalOrder, nat_cmp_total}
use Rattle.std.proofs.lemmas.Cmp.{on_total, then_total, back_total}
use Rattle.bm_base.specs.declared.replica.Level.{Level}
use Rattle.bm_base.specs.declared.replica.Level.TheVariants.{BadlyDistributed}
use Rattle.bm_base.specs.Words.{Cluster, rack_of, has_storage, is_draining, is_at, remaining, free_bytes, class_of, target_cmp, is_excluded, is_target}
use Rattle.bm_place.specs.ReplicaSpread.{replica_spread_of, class_by_spread, is_one}
use Rattle.bm_place.specs.Targets.{target_at, cmp_targets, is_available, is_excluded_by}
use Rattle.bm_place.proofs.Classes.{class_by_rack, one_rack_by_spread}

pub target_cmp_total : (C : Cluster) (sent : ℕ → ℕ) (holders : List ℕ) → IsTotalOrder (target_cmp C sent holders)
unfolding target_cmp
target_cmp_total C sent holders = then_total (on_total (class_of C holders) nat_cmp_total) (then_total (back_total (on_total (free_bytes C sent) nat_cmp_total)) nat_cmp_total)

pub ordered_as : (C : Cluster) (sent : ℕ → ℕ) (holders : List ℕ) (s t : ℕ) → cmp_targets (replica_spread_of C holders) (target_at C sent s) (target_at C sent t) ≡ target_cmp C sent holders s t
unfolding target_cmp free_bytes
ordered_as C sent holders s t =
    λ i. ordering_then (nat_cmp (sym (class_by_rack C holders s) i) (sym (class_by_rack C holders t) i)) (ordering_then (nat_cmp (remaining C t - sent t) (remaining C s - sent s)) (nat_cmp s t))

tests_swapped : (a b c d : Bool) → ((d && a && c) && b) ≡ (a && d && b && c)
tests_swapped true true true true = refl
tests_swapped true true false true = refl
tests_swapped true false true true = refl
tests_swapped true false false true = refl
tests_swapped false b c true = refl
tests_swapped true b c false = refl
tests_swapped false b c false = refl

pub tested_as : (C : Cluster) (sent : ℕ → ℕ) (urgency : Level) (holders excluded : List ℕ) (len s : ℕ) → is_available C (replica_spread_of C holders) urgency excluded len (target_at C sent s) ≡ is_target C sent (record { urgency = urgency; holders = holders; excluded = excluded; len = len }) s
unfolding is_target is_excluded is_excluded_by has_storage
tested_as C sent urgency holders excluded len s =
    tests_swapped (nat_le (len + sent s) (remaining C s)) (not (is_excluded_by C excluded (target_at C sent s))) (not (is_at BadlyDistributed (Some urgency) && is_one (replica_spread_of C holders).racks && (class_by_spread (replica_spread_of C holders) (rack_of C s) == 1)))
    (not (is_draining C s))
    ∙ (λ i. nat_le (len + sent s) (remaining C s) && not (is_draining C s) && not (is_excluded_by C excluded (target_at C sent s)) && not (is_at BadlyDistributed (Some urgency) && sym (one_rack_by_spread C holders) i && (sym (class_by_rack C holders s) i == 1)))
