-- What a round finds in holdings, by the elements of each of its lists. An ascending list with
-- exactly these elements is the list, in whatever order they were found.
use Rattle.std.specs.Prelude.{◌≡◌, ℕ, ◌-◌, true, nat_le, List, map, Some, IsSome, T}
use Rattle.std.specs.Ordering.{eq_by_cmp}
use Rattle.std.specs.FinMap.{is_sorted}
use Rattle.std.specs.List.{All, list_any}
use Rattle.bm_base.specs.declared.replica.ReplicaId.{ReplicaId}
use Rattle.bm_base.specs.declared.replica.Marks.{Marks}
use Rattle.bm_base.specs.declared.commands.Delete.{Delete}
use Rattle.bm_base.specs.declared.round.Wish.{Wish}
use Rattle.bm_base.specs.declared.round.RoundPart.{RoundPart}
use Rattle.bm_base.specs.Words.{Order, get, contains_key, Cluster, Holdings, by_replica, replica_at, has, without_expired, without_unordered_excess, excess_in, is_deletable}
use Rattle.bm_base.specs.Ordered.{by_pair}
use Rattle.bm_base.specs.RoundParts.{holdings_at_choice, wish_at, wish_key, delete_key, round_part}

-- the keys are ascending, each element passes, and the key of each one that passes is in the list
pub record IsGathered {K X : Type 0} (o : Order K) (key : X → K) (P : X → Type 0) (xs : List X) : Type 0 where
  pub ascends : T (is_sorted o.cmp (map (λ x. (key x, x)) xs))
  pub only : All P xs
  pub all : (x : X) → P x → list_any (λ y. eq_by_cmp o.cmp (key x) (key y)) xs ≡ true

-- a pending transfer that is too old in round r
abbrev pub IsExpired : ℕ → ℕ → Holdings → ReplicaId → Type 0
IsExpired pend r H q = (t : ℕ) × (get H.pending q ≡ Some t) × (nat_le pend (r - t) ≡ true)

-- a surplus live replica
abbrev pub IsSurplus : Cluster → Holdings → ReplicaId → Type 0
IsSurplus C H q = IsSome (get H.replicas q) × (has (excess_in C H q.block) q.storage ≡ true)

-- the wish of a block at its level
abbrev pub IsRequested : Cluster → Holdings → Wish → Type 0
IsRequested C H w = wish_at C H w.level w.block ≡ Some w

-- a replica on a known storage that is to be deleted
abbrev pub IsDeletable : Cluster → Holdings → Delete → Type 0
IsDeletable C H d =
    (contains_key C.storages d.storage ≡ true) × ((m : Marks) × (get H.replicas (replica_at d.block d.storage) ≡ Some m) × (is_deletable C H (replica_at d.block d.storage) m ≡ true))

-- each list of the part has exactly its elements as round r begins
pub record IsFound (C : Cluster) (pend r : ℕ) (H : Holdings) (p : RoundPart) : Type 0 where
  pub expired : IsGathered by_replica (λ (q : ReplicaId). q) (IsExpired pend r H) p.expired
  pub excess : IsGathered by_replica (λ (q : ReplicaId). q) (IsSurplus C (without_unordered_excess (without_expired pend r H))) p.excess
  pub wishes : IsGathered by_pair wish_key (IsRequested C (holdings_at_choice C pend r H)) p.wishes
  pub deletes : IsGathered by_pair delete_key (IsDeletable C (holdings_at_choice C pend r H)) p.deletes

-- what a round finds satisfies `IsFound`
abbrev pub round_part_is_found : Type 0
round_part_is_found = (C : Cluster) (pend r : ℕ) (H : Holdings) → IsFound C pend r H (round_part C pend r H)

-- only what a round finds satisfies `IsFound`
abbrev pub found_is_round_part : Type 0
found_is_round_part = (C : Cluster) (pend r : ℕ) (H : Holdings) (p : RoundPart) → IsFound C pend r H p → p ≡ round_part C pend r H
