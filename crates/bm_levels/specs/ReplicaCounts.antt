-- Counting the replicas at a slot, one after another.
use Rattle.std.specs.Prelude.{◌≡◌, ℕ, ◌+◌, ◌<◌, ◌≤◌, ◌⊎◌, Bool, true, false, not, ◌&&◌, ◌||◌, ◌==◌, if◌then◌else◌, List, [], ◌∷◌, length, Option, Some, None, is_some}
use Rattle.std.specs.Option.{option_map_or}
use Rattle.std.specs.Int.{from_bool}
use Rattle.bm_base.specs.declared.replica.Marks.{Marks}
use Rattle.bm_base.specs.Machine.Replicas.{is_usable}
use Rattle.bm_levels.specs.declared.classification.ReplicaCount.{ReplicaCount}
use Rattle.bm_levels.specs.Status.{is_good_and_unmarked}

abbrev pub none : ReplicaCount
none = record { live = 0; drained = 0; first = None; is_spread = false; is_good_and_unmarked = true }

-- a count with the rack of one more live replica
unfoldable pub count_rack : ReplicaCount → ℕ → ReplicaCount
count_rack k r = option_map_or (λ f. record k { is_spread = k.is_spread || not (r == f) }) k.first (record k { first = Some r })

-- a count with one more replica, on a storage, with these marks
unfoldable pub count_replica : (ℕ → Option ℕ) → (ℕ → Bool) → ReplicaCount → ℕ → Marks → ReplicaCount
count_replica rack draining k s m =
    let plain = record k { is_good_and_unmarked = k.is_good_and_unmarked && is_good_and_unmarked m } in
    if not (is_usable m) then plain
    else if draining s then record plain { drained = k.drained + 1 }
    else option_map_or (count_rack (record plain { live = k.live + 1 })) (rack s) (record plain { live = k.live + 1 })

-- a count with all replicas of a list
abbrev pub count_replicas : (ℕ → Option ℕ) → (ℕ → Bool) → ReplicaCount → List (ℕ × Marks) → ReplicaCount
count_replicas rack draining k [] = k
count_replicas rack draining k (r ∷ rs) = count_replicas rack draining (count_replica rack draining k r.0 r.1) rs

-- the number of racks of the live replicas, at most 2
unfoldable pub racks_of : ReplicaCount → ℕ
racks_of k = if k.is_spread then 2 else from_bool (is_some k.first)

-- k counts all replicas of a list, or the first ones. It may stop if the list has more than are
-- wanted, and enough of the first ones are live, on two racks.
pub record IsCountOf (rack : ℕ → Option ℕ) (draining : ℕ → Bool) (wanted : ℕ) (rs : List (ℕ × Marks)) (k : ReplicaCount) : Type 0 where
  pub rest : List (ℕ × Marks)
  pub counted : count_replicas rack draining k rest ≡ count_replicas rack draining none rs
  pub decided : (rest ≡ []) ⊎ ((wanted < length rs) × (wanted ≤ k.live) × (k.is_spread ≡ true))
