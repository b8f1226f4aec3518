-- Counting replicas one by one gives the numbers of live and drained ones, and of racks up to two.
use Rattle.std.specs.Prelude.{◌≡◌, ℕ, ◌+◌, ◌≤◌, Bool, true, false, not, ◌&&◌, ◌||◌, ◌==◌, if◌then◌else◌, List, [], ◌∷◌, length, filter, filter_map, map, Option, Some, None, is_some}
use Rattle.std.specs.Option.{option_map_or}
use Rattle.std.specs.Int.{from_bool}
use Rattle.std.specs.List.{list_any, cons_option}
use Rattle.std.proofs.Common.{cond, refl, sym, ap, ◌∙◌, arith}
use Rattle.bm_base.specs.declared.replica.Marks.{Marks}
use Rattle.bm_base.specs.Machine.Replicas.{is_usable}
use Rattle.bm_base.specs.Spread.{spread_after}
use Rattle.bm_levels.specs.declared.classification.ReplicaCount.{ReplicaCount}
use Rattle.bm_levels.specs.Status.{is_good_and_unmarked, storages_at, is_live_by, is_drained_by}
use Rattle.bm_levels.specs.ReplicaCounts.{none, count_rack, count_replica, count_replicas, racks_of}

module _ (rack : ℕ → Option ℕ) (draining : ℕ → Bool) where
  seen_same : (k : ReplicaCount) (r : ℕ) → ((count_rack k r).live ≡ k.live) × ((count_rack k r).drained ≡ k.drained) × ((count_rack k r).is_good_and_unmarked ≡ k.is_good_and_unmarked)
  unfolding count_rack
  seen_same k r = elim k.first as (λ o. let z = option_map_or (λ f. record k { is_spread = k.is_spread || not (r == f) }) o (record k { first = Some r }) in (z.live ≡ k.live) × (z.drained ≡ k.drained) × (z.is_good_and_unmarked ≡ k.is_good_and_unmarked)) [
    | None ↦ (refl, refl, refl)
    | Some f ↦ (refl, refl, refl)
  ]

  -- one more replica increases each count by at most one
  few_more : (k : ReplicaCount) (s : ℕ) (m : Marks) → ((count_replica rack draining k s m).live ≤ k.live + 1) × ((count_replica rack draining k s m).drained ≤ k.drained + 1)
  unfolding count_replica
  few_more k s m = by (is_usable m) (draining s) (rack s)
    where
      by : (u d : Bool) (o : Option ℕ)
          → let plain = record k { is_good_and_unmarked = k.is_good_and_unmarked && is_good_and_unmarked m } in
          let z = if not u then plain else if d then record plain { drained = k.drained + 1 } else option_map_or (count_rack (record plain { live = k.live + 1 })) o (record plain { live = k.live + 1 }) in
          (z.live ≤ k.live + 1) × (z.drained ≤ k.drained + 1)
      by false d o = (omega arith, omega arith)
      by true true o = (omega arith, omega arith)
      by true false None = (omega arith, omega arith)
      by true false (Some r) =
          let h = seen_same (record (record k { is_good_and_unmarked = k.is_good_and_unmarked && is_good_and_unmarked m }) { live = k.live + 1 }) r in
          (omega (arith, h.0), omega (arith, h.1))

  pub few_step : (k z : ReplicaCount) (s : ℕ) (m : Marks) → z ≡ count_replica rack draining k s m → (z.live ≤ k.live + 1) × (z.drained ≤ k.drained + 1)
  few_step k z s m e = let h = few_more k s m in (omega (arith, h.0, ap (λ x. x.live) e), omega (arith, h.1, ap (λ x. x.drained) e))

  -- counting the next replica leaves the rest to be counted
  pub counted_next : (k z : ReplicaCount) (rs all : List (ℕ × Marks)) (r : ℕ × Marks) (behind : List (ℕ × Marks)) → rs ≡ r ∷ behind → z ≡ count_replica rack draining k r.0 r.1
      → count_replicas rack draining k rs ≡ count_replicas rack draining none all → count_replicas rack draining z behind ≡ count_replicas rack draining none all
  counted_next k z rs all r behind here counted h = ap (λ x. count_replicas rack draining x behind) counted ∙ sym (ap (count_replicas rack draining k) here) ∙ h

  -- the number of racks, up to two, of the counted replicas and of those of a list
  abbrev racks_on : ReplicaCount → List ℕ → ℕ
  racks_on k rs = if k.is_spread then 2 else spread_after k.first rs

  seen_on : (k : ReplicaCount) (r : ℕ) (rs : List ℕ) → racks_on (count_rack k r) rs ≡ racks_on k (r ∷ rs)
  unfolding count_rack
  seen_on k r rs = by k.first
    where
      either : (f : ℕ) (b c : Bool) → (if b || not c then 2 else spread_after (Some f) rs) ≡ (if b then 2 else (if c then spread_after (Some f) rs else 2))
      either f true c = refl
      either f false true = refl
      either f false false = refl

      by : (o : Option ℕ) → racks_on (option_map_or (λ f. record k { first = o; is_spread = k.is_spread || not (r == f) }) o (record k { first = Some r })) rs ≡ (if k.is_spread then 2 else spread_after o (r ∷ rs))
      by None = refl
      by (Some f) = either f k.is_spread (r == f)

  -- z counts the replicas of a list on top of k
  abbrev pub IsCountOf : ReplicaCount → List (ℕ × Marks) → ReplicaCount → Type 0
  IsCountOf k rs z =
      (z.live ≡ k.live + length (storages_at (is_live_by draining) rs))
      × (z.drained ≡ k.drained + length (storages_at (is_drained_by draining) rs))
      × (z.is_good_and_unmarked ≡ (k.is_good_and_unmarked && not (list_any (λ r. not (is_good_and_unmarked r.1)) rs)))
      × (racks_of z ≡ racks_on k (filter_map rack (storages_at (is_live_by draining) rs)))

  -- z counts one more replica than k, before the rest
  IsStep : ReplicaCount → ℕ → Marks → List (ℕ × Marks) → ReplicaCount → Type 0
  IsStep k s m rs z =
      (z.live + length (storages_at (is_live_by draining) rs) ≡ k.live + length (storages_at (is_live_by draining) ((s, m) ∷ rs)))
      × (z.drained + length (storages_at (is_drained_by draining) rs) ≡ k.drained + length (storages_at (is_drained_by draining) ((s, m) ∷ rs)))
      × (z.is_good_and_unmarked ≡ (k.is_good_and_unmarked && is_good_and_unmarked m))
      × (racks_on z (filter_map rack (storages_at (is_live_by draining) rs)) ≡ racks_on k (filter_map rack (storages_at (is_live_by draining) ((s, m) ∷ rs))))

  step : (k : ReplicaCount) (s : ℕ) (m : Marks) (rs : List (ℕ × Marks)) → IsStep k s m rs (count_replica rack draining k s m)
  unfolding count_replica IsStep
  step k s m rs = by (is_usable m) (draining s)
    where
      plain : ReplicaCount
      plain = record k { is_good_and_unmarked = k.is_good_and_unmarked && is_good_and_unmarked m }

      more : ReplicaCount
      more = record k { is_good_and_unmarked = k.is_good_and_unmarked && is_good_and_unmarked m; live = k.live + 1 }

      by_rack : (o : Option ℕ) → let z = option_map_or (count_rack more) o more in
          (z.live + length (storages_at (is_live_by draining) rs) ≡ k.live + (1 + length (storages_at (is_live_by draining) rs)))
          × (z.drained ≡ k.drained)
          × (z.is_good_and_unmarked ≡ (k.is_good_and_unmarked && is_good_and_unmarked m))
          × (racks_on z (filter_map rack (storages_at (is_live_by draining) rs)) ≡ racks_on k (cons_option o (filter_map rack (storages_at (is_live_by draining) rs))))
      by_rack None = (omega arith, refl, refl, refl)
      by_rack (Some r) = let h = seen_same more r in (omega (arith, h.0), h.1, h.2, seen_on more r (filter_map rack (storages_at (is_live_by draining) rs)))

      by : (u d : Bool)
          → let z = if not u then plain else if d then record plain { drained = k.drained + 1 } else option_map_or (count_rack more) (rack s) more in
          let lives = map (λ (r : ℕ × Marks). r.0) (cond (u && not d) ((s, m) ∷ filter (λ r. is_live_by draining r.0 r.1) rs) (filter (λ r. is_live_by draining r.0 r.1) rs)) in
          let draineds = map (λ (r : ℕ × Marks). r.0) (cond (u && d) ((s, m) ∷ filter (λ r. is_drained_by draining r.0 r.1) rs) (filter (λ r. is_drained_by draining r.0 r.1) rs)) in
          (z.live + length (storages_at (is_live_by draining) rs) ≡ k.live + length lives)
          × (z.drained + length (storages_at (is_drained_by draining) rs) ≡ k.drained + length draineds)
          × (z.is_good_and_unmarked ≡ (k.is_good_and_unmarked && is_good_and_unmarked m))
          × (racks_on z (filter_map rack (storages_at (is_live_by draining) rs)) ≡ racks_on k (filter_map rack lives))
      by false d = (refl, refl, refl, refl)
      by true true = (refl, omega arith, refl, refl)
      by true false = let h = by_rack (rack s) in (omega (arith, h.0), omega (arith, h.1), h.2, h.3)

  pub counted_is : (k : ReplicaCount) (rs : List (ℕ × Marks)) → IsCountOf k rs (count_replicas rack draining k rs)
  unfolding racks_of IsStep
  counted_is k [] = (omega arith, omega arith, never k.is_good_and_unmarked, racks_now k.is_spread k.first)
    where
      never : (b : Bool) → b ≡ (b && true)
      never true = refl
      never false = refl

      racks_now : (b : Bool) (o : Option ℕ) → (if b then 2 else from_bool (is_some o)) ≡ (if b then 2 else spread_after o [])
      racks_now true o = refl
      racks_now false None = refl
      racks_now false (Some f) = refl
  counted_is k (r ∷ rs) =
      let one = step k r.0 r.1 rs in
      let rest = counted_is (count_replica rack draining k r.0 r.1) rs in
      (omega (arith, one.0, rest.0), omega (arith, one.1, rest.1), rest.2 ∙ chain (count_replica rack draining k r.0 r.1).is_good_and_unmarked k.is_good_and_unmarked (is_good_and_unmarked r.1) (list_any (λ (x : ℕ × Marks). not (is_good_and_unmarked x.1)) rs) one.2, rest.3 ∙ one.3)
    where
      chain : (z a b c : Bool) → z ≡ (a && b) → (z && not c) ≡ (a && not (not b || c))
      chain z a b c e = ap (λ y. y && not c) e ∙ both a b c
        where
          both : (x y w : Bool) → ((x && y) && not w) ≡ (x && not (not y || w))
          both true true w = refl
          both true false w = refl
          both false y w = refl
