-- The best target fits, is on no excluded or draining node, and adds a second rack if any can.
use Rattle.std.specs.Prelude.{◌||◌}
use Rattle.std.specs.Option.{option_map_or, IfSome}
use Rattle.std.specs.List.{list_any}
use Rattle.std.proofs.Common.{◌≡◌, ◌≤◌, ◌+◌, ℕ, Bool, true, false, cond, ◌&&◌, nat_le, not, List, [], ◌∷◌, length, Option, Some, None, refl, sym, ap, subst, ◌∙◌, ◌==◌, true≢false}
use Rattle.std.specs.Ordering.{is_lt, nat_cmp, ordering_then}
use Rattle.std.proofs.lemmas.Bool.{eqb-true, eq-eqb, leb-true, not-true}
use Rattle.bm_base.specs.declared.replica.Level.{Level}
use Rattle.bm_base.specs.declared.replica.Level.TheVariants.{BadlyDistributed}
use Rattle.bm_base.specs.Words.{has, distinct, get, keys, Cluster, node_of, has_storage, is_draining, racks, is_at, remaining, free_bytes, class_of, target_cmp, is_excluded, is_target, is_on_racks}
use Rattle.bm_place.specs.declared.scheduled_bytes.TargetRow.{TargetRow}
use Rattle.bm_place.specs.Least.{IsLeastOf}
use Rattle.bm_place.specs.Targets.{target_at, target_table, LeavesRack}
use Rattle.bm_place.proofs.Tables.{get-table}

four : (a b c d : Bool) → (a && b && c && d) ≡ true → (a ≡ true) × (b ≡ true) × (c ≡ true) × (d ≡ true)
four true true true true e = (refl, refl, refl, refl)
four true true true false e = cc
four true true false d e = cc
four true false c d e = cc
four false b c d e = cc

-- an eligible target fits, and its node is neither draining nor excluded
pub parts : (C : Cluster) (sent : ℕ → ℕ) (urgency : Level) (holders excluded : List ℕ) (len s : ℕ) → is_target C sent (record { urgency = urgency; holders = holders; excluded = excluded; len = len }) s ≡ true → (len + sent s ≤ remaining C s) × (is_draining C s ≡ false) × (is_excluded C excluded s ≡ false)
unfolding is_target
parts C sent urgency holders excluded len s e =
    let all = four (nat_le (len + sent s) (remaining C s)) (not (is_draining C s)) (not (is_excluded C excluded s)) (not (is_at BadlyDistributed (Some urgency) && (length (racks C holders) == 1) && (class_of C holders s == 1))) e in
    (leb-true (len + sent s) (remaining C s) all.0, not-true (is_draining C s) all.1, not-true (is_excluded C excluded s) all.2)

module _ (C : Cluster) (sent : ℕ → ℕ) (urgency : Level) (holders excluded : List ℕ) (len : ℕ) where
  abbrev IsFound : Option ℕ → Type 0
  IsFound m = IsLeastOf (target_cmp C sent holders) (is_target C sent (record { urgency = urgency; holders = holders; excluded = excluded; len = len })) (keys C.storages) m

  pub has_enough_bytes : (m : Option ℕ) → IsFound m → IfSome m (λ s. len + sent s ≤ remaining C s)
  has_enough_bytes None h = tt
  has_enough_bytes (Some s) h = (parts C sent urgency holders excluded len s h.0).0

  pub on_kept_node : (m : Option ℕ) → IsFound m → IfSome m (λ s. is_draining C s ≡ false)
  on_kept_node None h = tt
  on_kept_node (Some s) h = (parts C sent urgency holders excluded len s h.0).1

  not_any : (q : ℕ → Bool) (bs : List ℕ) (b : ℕ) → list_any q bs ≡ false → has bs b ≡ true → q b ≡ false
  not_any q [] b none there = cc
  not_any q (x ∷ bs) b none there = by (q x) refl (x == b) refl none there (not_any q bs b)
    where
      by : (t : Bool) → q x ≡ t → (e : Bool) → (x == b) ≡ e → (t || list_any q bs) ≡ false → (e || has bs b) ≡ true → (list_any q bs ≡ false → has bs b ≡ true → q b ≡ false) → q b ≡ false
      by true is e same none there rest = cc
      by false is true same none there rest = ap q (sym (eqb-true x b same)) ∙ is
      by false is false same none there rest = rest none there

  pub on_allowed_node : (m : Option ℕ) → IsFound m → IfSome m (λ s. (b n : ℕ) → has excluded b ≡ true → node_of C b ≡ Some n → has_storage C n s ≡ false)
  unfolding is_excluded
  on_allowed_node None h = tt
  on_allowed_node (Some s) h = λ b n there at.
      ap (λ o. option_map_or (λ n. has_storage C n s) o false) (sym at)
      ∙ not_any (λ t. option_map_or (λ n. has_storage C n s) (node_of C t) false) excluded b (parts C sent urgency holders excluded len s h.0).2 there

  one_true : (n : ℕ) → n ≡ 1 → (n == 1) ≡ true
  one_true n e = eq-eqb n 1 e

  class_on_one : (s : ℕ) (b : Bool) → length (racks C holders) ≡ 1 → is_on_racks C (racks C holders) s ≡ b → class_of C holders s ≡ cond b 1 0
  unfolding class_of
  class_on_one s b one is =
      ap (λ t. cond t (cond (is_on_racks C (racks C holders) s) 1 0) (cond ((length (distinct holders) == 2) && (length (racks C holders) == 2)) (cond (is_on_racks C (racks C holders) s) 0 1) 0)) (one_true (length (racks C holders)) one)
      ∙ ap (λ t. cond t 1 0) is

  pub on_other_rack : (m : Option ℕ) → IsFound m → LeavesRack C sent urgency holders excluded len m
  unfolding target_cmp
  on_other_rack None h one t there may off = tt
  on_other_rack (Some s) h one t there may off = by (is_on_racks C (racks C holders) s) refl
    where
      by : (b : Bool) → is_on_racks C (racks C holders) s ≡ b → not (is_on_racks C (racks C holders) s) ≡ true
      by false e = ap not e
      by true e =
          let rest = ordering_then (nat_cmp (free_bytes C sent s) (free_bytes C sent t)) (nat_cmp t s) in
          let elsewhere = not-true (is_on_racks C (racks C holders) t) off in
          let before : is_lt (ordering_then (nat_cmp (class_of C holders t) (class_of C holders s)) rest) ≡ true = λ i. is_lt (ordering_then (nat_cmp (class_on_one t false one elsewhere i) (class_on_one s true one e i)) rest) in
          absurd (true≢false (sym before ∙ h.2 t there may))

pub fits_row : (C : Cluster) (sent : ℕ → ℕ) (len : ℕ) (m : Option ℕ) → IfSome m (λ s. len + sent s ≤ remaining C s) → IfSome m (λ s. IfSome (get (target_table C sent) s) (λ (t : TargetRow). len + t.scheduled ≤ t.remaining))
fits_row C sent len None h = tt
fits_row C sent len (Some s) h =
    subst (λ o. IfSome o (λ (t : TargetRow). len + t.scheduled ≤ t.remaining)) (sym (get-table (target_at C sent) (keys C.storages) s)) (by (has (keys C.storages) s))
  where
    by : (b : Bool) → IfSome (cond b (Some (target_at C sent s)) None) (λ (t : TargetRow). len + t.scheduled ≤ t.remaining)
    by true = h
    by false = tt
