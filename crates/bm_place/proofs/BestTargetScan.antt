-- A scan of the nodes' best targets finds the least eligible target among all storages.
use Rattle.std.specs.Prelude.{option_map, nat_le, ◌||◌}
use Rattle.std.specs.Ordering.{is_lt, nat_cmp, ordering_then, ordering_reverse}
use Rattle.std.specs.FinMap.{nat_cmp-IsAntisymmetric}
use Rattle.std.specs.declared.cmp.Ordering.{Ordering}
use Rattle.std.specs.declared.cmp.Ordering.TheVariants.{Less, Equal, Greater}
use Rattle.std.specs.Cmp.{IsTotalOrder, IsStrictWeakOrder, nat_cmp_total}
use Rattle.std.proofs.Common.{◌≡◌, ◌≤◌, ◌+◌, ℕ, Bool, true, false, not, cond, ◌&&◌, ◌==◌, List, [], ◌∷◌, map, filter, Option, Some, None, refl, inl, inr, sym, ap, subst, ◌∙◌, arith, true≢false}
use Rattle.std.proofs.lemmas.Bool.{eqb-true, eq-eqb, leb-true}
use Rattle.std.proofs.lemmas.Bool.Decides.{nat_tests}
use Rattle.std.proofs.lemmas.Cmp.{tied_itself}
use Rattle.std.proofs.lemmas.List.MinMax.{ranks_by}
use Rattle.std.proofs.lemmas.Option.{cond_some}
use Rattle.std.proofs.Math.Bool.{or-true}
use Rattle.bm_base.specs.declared.replica.Level.{Level}
use Rattle.bm_base.specs.declared.replica.Level.TheVariants.{BadlyDistributed}
use Rattle.bm_base.specs.Words.{is_at, has, least, get, keys, Cluster, free_bytes, class_of, target_cmp, is_target, least_target_by}
use Rattle.bm_place.specs.declared.scheduled_bytes.TargetRow.{TargetRow}
use Rattle.bm_place.specs.declared.replica_spread.ReplicaSpread.{ReplicaSpread}
use Rattle.bm_place.specs.Least.{IsLeastOf}
use Rattle.bm_place.specs.Scan.{scan}
use Rattle.bm_place.specs.ReplicaSpread.{replica_spread_of, class_by_spread, is_one}
use Rattle.bm_place.specs.Targets.{free_bytes_on, target_at, target_table, cmp_targets, is_available, is_excluded_by}
use Rattle.bm_place.specs.BestTargets.{IsMember, AreBestTargets, is_better_than, cmp_of_one_node}
use Rattle.bm_place.proofs.SameNodeTargets.{IsLike, like, more_free_bytes}
use Rattle.bm_place.proofs.BestElement.{least-bears}
use Rattle.bm_place.proofs.RowScan.{scan-found}
use Rattle.bm_place.proofs.RowOrder.{target_cmp_total, ordered_as, tested_as}
use Rattle.bm_place.proofs.Tables.{get-table}

-- The least of fewer numbers.

no_less_both : (r q : Ordering) → is_lt r ≡ false → is_lt q ≡ false → r ≡ ordering_reverse q → r ≡ Equal
no_less_both Less q e f g = cc
no_less_both Equal q e f g = refl
no_less_both Greater Less e f g = cc
no_less_both Greater Equal e f g = cc
no_less_both Greater Greater e f g = cc

module _ (R : ℕ → ℕ → Ordering) (total : IsTotalOrder R) (exact : (x y : ℕ) → R x y ≡ Equal → x ≡ y) (p : ℕ → Bool) (xs ys : List ℕ) (of : (x : ℕ) → has xs x ≡ true → has ys x ≡ true)
    (enough : (y : ℕ) → has ys y ≡ true → p y ≡ true → (x : ℕ) × (has xs x ≡ true) × (p x ≡ true) × (is_lt (R y x) ≡ false)) where
  ranked : IsStrictWeakOrder (λ x y. is_lt (R x y))
  ranked = ranks_by total (λ x. x)

  pub same_least : (m n : Option ℕ) → IsLeastOf R p xs m → IsLeastOf R p ys n → m ≡ n
  same_least None None h g = refl
  same_least None (Some y) h g = let w = enough y g.1 g.0 in absurd (true≢false (sym w.2 ∙ h w.0 w.1))
  same_least (Some x) None h g = absurd (true≢false (sym h.0 ∙ g x (of x h.1)))
  same_least (Some x) (Some y) h g =
      let w = enough y g.1 g.0 in
      let above = ranked.chain y w.0 x w.3 (h.2 w.0 w.1 w.2) in
      ap Some (exact x y (no_less_both (R x y) (R y x) (g.2 x (of x h.1) h.0) above (total.antisymm x y)))

-- A target alike, with no fewer free bytes, is eligible if the other is; and the other, if not
-- better, does not come before it.

fits_of : (a b c d : Bool) → ((a && b && c) && d) ≡ true → b ≡ true
fits_of true true c d e = refl
fits_of true false c d e = cc
fits_of false b c d e = cc

module _ (C : Cluster) (w : ReplicaSpread) (urgency : Level) (excluded : List ℕ) (len : ℕ) (c t : TargetRow) (same : IsLike c t) where
  same_excluded : is_excluded_by C excluded c ≡ is_excluded_by C excluded t
  unfolding is_excluded_by
  same_excluded = ap (λ n. is_excluded_by C excluded (record t { node = n })) same.node

  pub free_too : free_bytes_on t ≤ free_bytes_on c → c.scheduled ≤ c.remaining → is_available C w urgency excluded len t ≡ true → is_available C w urgency excluded len c ≡ true
  free_too more within e =
      let there : nat_le (len + t.scheduled) t.remaining ≡ true =
      fits_of (not t.is_draining) (nat_le (len + t.scheduled) t.remaining) (not (is_at BadlyDistributed (Some urgency) && is_one w.racks && (class_by_spread w t.rack == 1))) (not (is_excluded_by C excluded t)) e in
      let below = leb-true (len + t.scheduled) t.remaining there in
      let here : nat_le (len + c.scheduled) c.remaining ≡ true = grind (arith, nat_tests) in
      (λ i. (not (same.is_draining i) && (here ∙ sym there) i && not (is_at BadlyDistributed (Some urgency) && is_one w.racks && (class_by_spread w (same.rack i) == 1))) && not (same_excluded i)) ∙ e

  pub not_before : is_better_than t c ≡ false → is_lt (cmp_targets w t c) ≡ false
  not_before e =
      let tied : nat_cmp (class_by_spread w t.rack) (class_by_spread w c.rack) ≡ Equal = ap (λ r. nat_cmp (class_by_spread w t.rack) (class_by_spread w r)) same.rack ∙ tied_itself nat_cmp_total (class_by_spread w t.rack) in
      ap (λ o. is_lt (ordering_then o (cmp_of_one_node t c))) tied ∙ e

-- Lists of targets and of their storages.

pub has_storage_of : (cs : List TargetRow) (c : TargetRow) → IsMember cs c → has (map (λ (t : TargetRow). t.storage) cs) c.storage ≡ true
has_storage_of [] c none = absurd none
has_storage_of (d ∷ cs) c (inl e) = ap (λ b. b || has (map (λ (t : TargetRow). t.storage) cs) c.storage) (eq-eqb d.storage c.storage (ap (λ (t : TargetRow). t.storage) e))
has_storage_of (d ∷ cs) c (inr there) = ap (λ b. (d.storage == c.storage) || b) (has_storage_of cs c there) ∙ or-true (d.storage == c.storage)

pub of_storage : (cs : List TargetRow) (s : ℕ) → has (map (λ (t : TargetRow). t.storage) cs) s ≡ true → (c : TargetRow) × IsMember cs c × (c.storage ≡ s)
of_storage [] s h = cc
of_storage (d ∷ cs) s h = by (d.storage == s) refl h (λ g. of_storage cs s g)
  where
    by : (b : Bool) → (d.storage == s) ≡ b → (b || has (map (λ (t : TargetRow). t.storage) cs) s) ≡ true → (has (map (λ (t : TargetRow). t.storage) cs) s ≡ true → (c : TargetRow) × IsMember cs c × (c.storage ≡ s))
        → (c : TargetRow) × IsMember (d ∷ cs) c × (c.storage ≡ s)
    by true e h rest = (d, inl refl, eqb-true d.storage s e)
    by false e h rest = let found = rest h in (found.0, inr found.1, found.2)

pub made_of_storages : (f : ℕ → TargetRow) (cs : List TargetRow) → ((c : TargetRow) → IsMember cs c → f c.storage ≡ c) → map f (map (λ (t : TargetRow). t.storage) cs) ≡ cs
made_of_storages f [] h = refl
made_of_storages f (c ∷ cs) h = λ i. h c (inl refl) i ∷ made_of_storages f cs (λ d there. h d (inr there)) i

then_equal : (r q : Ordering) → ordering_then r q ≡ Equal → q ≡ Equal
then_equal Less q e = cc
then_equal Equal q e = e
then_equal Greater q e = cc

-- The best targets of the table of a cluster.

module _ (C : Cluster) (sent : ℕ → ℕ) (urgency : Level) (holders excluded : List ℕ) (len : ℕ) where
  exact : (s t : ℕ) → target_cmp C sent holders s t ≡ Equal → s ≡ t
  unfolding target_cmp
  exact s t e =
      nat_cmp-IsAntisymmetric s t
      (then_equal (nat_cmp (free_bytes C sent t) (free_bytes C sent s)) (nat_cmp s t) (then_equal (nat_cmp (class_of C holders s) (class_of C holders t)) (ordering_then (nat_cmp (free_bytes C sent t) (free_bytes C sent s)) (nat_cmp s t)) e))

  pub row_of : (s : ℕ) (t : TargetRow) → get (target_table C sent) s ≡ Some t → (has (keys C.storages) s ≡ true) × (target_at C sent s ≡ t)
  row_of s t is = cond_some (has (keys C.storages) s) (target_at C sent s) t (sym (get-table (target_at C sent) (keys C.storages) s) ∙ is)

  module _ (cs : List TargetRow) (best_targets : AreBestTargets (target_table C sent) cs) where
    abbrev storages : List ℕ
    storages = map (λ (t : TargetRow). t.storage) cs

    made : (c : TargetRow) → IsMember cs c → target_at C sent c.storage ≡ c
    made c there = (row_of c.storage c (best_targets.known c there)).1

    all_made : map (target_at C sent) storages ≡ cs
    all_made = made_of_storages (target_at C sent) cs made

    known : (s : ℕ) → has storages s ≡ true → has (keys C.storages) s ≡ true
    known s h = let c = of_storage cs s h in subst (λ s. has (keys C.storages) s ≡ true) c.2 (row_of c.0.storage c.0 (best_targets.known c.0 c.1)).0

    enough : (s : ℕ) → has (keys C.storages) s ≡ true → is_target C sent (record { urgency = urgency; holders = holders; excluded = excluded; len = len }) s ≡ true
        → (r : ℕ) × (has storages r ≡ true) × (is_target C sent (record { urgency = urgency; holders = holders; excluded = excluded; len = len }) r ≡ true) × (is_lt (target_cmp C sent holders s r) ≡ false)
    enough s there may =
        let t = target_at C sent s in
        let w = replica_spread_of C holders in
        let c = best_targets.first t (get-table (target_at C sent) (keys C.storages) s ∙ ap (λ b. cond b (Some t) None) there) in
        let same = like c.0 t c.2.alike in
        let free = free_too C w urgency excluded len c.0 t same (more_free_bytes c.0 t c.2.before) (best_targets.within c.0 c.1) (tested_as C sent urgency holders excluded len s ∙ may) in (
          c.0.storage,
          has_storage_of cs c.0 c.1,
          sym (tested_as C sent urgency holders excluded len c.0.storage) ∙ ap (is_available C w urgency excluded len) (made c.0 c.1) ∙ free,
          ap is_lt (sym (ordered_as C sent holders s c.0.storage)) ∙ ap (λ u. is_lt (cmp_targets w t u)) (made c.0 c.1) ∙ not_before C w urgency excluded len c.0 t same c.2.before,
        )

    least_of_fewer : least (target_cmp C sent holders) (filter (is_target C sent (record { urgency = urgency; holders = holders; excluded = excluded; len = len })) storages) ≡ least_target_by C sent (record { urgency = urgency; holders = holders; excluded = excluded; len = len })
    unfolding least_target_by
    least_of_fewer =
        let order = target_cmp C sent holders in
        let total = target_cmp_total C sent holders in
        let test = is_target C sent (record { urgency = urgency; holders = holders; excluded = excluded; len = len }) in
        same_least order total exact test storages (keys C.storages) known enough (least order (filter test storages)) (least order (filter test (keys C.storages))) (least-bears order total test storages)
        (least-bears order total test (keys C.storages))

    storage_again : (o : Option ℕ) → option_map (λ (t : TargetRow). t.storage) (option_map (target_at C sent) o) ≡ o
    storage_again None = refl
    storage_again (Some s) = refl

    -- a scan of all best targets finds the storage that the definition chooses
    pub target_found : (w : ReplicaSpread) (best : Option TargetRow) → w ≡ replica_spread_of C holders → scan (cmp_targets w) (is_available C w urgency excluded len) None cs ≡ best
        → option_map (λ (t : TargetRow). t.storage) best ≡ least_target_by C sent (record { urgency = urgency; holders = holders; excluded = excluded; len = len })
    target_found w best stands inv =
        let v = replica_spread_of C holders in
        ap (option_map (λ (t : TargetRow). t.storage)) (
        sym inv
        ∙ ap (λ w. scan (cmp_targets w) (is_available C w urgency excluded len) None cs) stands
        ∙ ap (scan (cmp_targets v) (is_available C v urgency excluded len) None) (sym all_made)
        ∙ scan-found (target_at C sent) (cmp_targets v) (is_available C v urgency excluded len) (target_cmp C sent holders) (is_target C sent (record { urgency = urgency; holders = holders; excluded = excluded; len = len })) (target_cmp_total C sent holders)
        (ordered_as C sent holders) (tested_as C sent urgency holders excluded len) storages
        )
        ∙ storage_again (least (target_cmp C sent holders) (filter (is_target C sent (record { urgency = urgency; holders = holders; excluded = excluded; len = len })) storages))
        ∙ least_of_fewer
