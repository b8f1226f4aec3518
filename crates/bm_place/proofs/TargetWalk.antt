-- A walk along sorted targets may stop at too few free bytes, or at a fit of the better class.
use Rattle.std.specs.Prelude.{slice_get, nat_le}
use Rattle.std.specs.Option.{IfSome}
use Rattle.std.specs.Ordering.{is_lt, nat_cmp, ordering_then}
use Rattle.std.specs.declared.cmp.Ordering.{Ordering}
use Rattle.std.specs.declared.cmp.Ordering.TheVariants.{Less, Equal, Greater}
use Rattle.std.proofs.Common.{◌≡◌, ◌<◌, ◌≤◌, ◌+◌, ℕ, suc, Bool, true, false, not, cond, ◌&&◌, ◌==◌, List, [], ◌∷◌, drop, length, Option, Some, None, refl, inl, inr, sym, ap, subst, ◌∙◌, arith}
use Rattle.std.proofs.lemmas.Bool.{leb-true}
use Rattle.std.proofs.lemmas.Bool.Decides.{nat_tests}
use Rattle.std.proofs.lemmas.List.{at_drop_all}
use Rattle.std.proofs.Math.Bool.{and-false}
use Rattle.bm_base.specs.declared.replica.Level.{Level}
use Rattle.bm_base.specs.declared.replica.Level.TheVariants.{BadlyDistributed}
use Rattle.bm_base.specs.Words.{is_at, Cluster}
use Rattle.bm_place.specs.declared.scheduled_bytes.TargetRow.{TargetRow}
use Rattle.bm_place.specs.declared.replica_spread.ReplicaSpread.{ReplicaSpread}
use Rattle.bm_place.specs.Scan.{scan, is_better}
use Rattle.bm_place.specs.ReplicaSpread.{class_by_spread, is_one}
use Rattle.bm_place.specs.Targets.{free_bytes_on, cmp_targets, is_available, is_excluded_by}
use Rattle.bm_place.specs.BestTargets.{IsMember, IsInOrder, is_better_than, cmp_of_one_node}
use Rattle.bm_place.proofs.SameNodeTargets.{more_free_bytes}
use Rattle.bm_place.proofs.SortedTargets.{behind_at}
use Rattle.bm_base.proofs.Slices.{drop_next}

-- a scan of elements that do not pass changes nothing
scan_none : {X : Type 0} (R : X → X → Ordering) (p : X → Bool) (best : Option X) (xs : List X) → ((x : X) → IsMember xs x → p x ≡ false) → scan R p best xs ≡ best
scan_none R p best [] none = refl
scan_none R p best (x ∷ xs) none = ap (λ b. scan R p (cond (b && is_better R best x) (Some x) best) xs) (none x (inl refl)) ∙ scan_none R p best xs (λ y there. none y (inr there))

-- a scan of elements that do not come before the best changes nothing
scan_best : {X : Type 0} (R : X → X → Ordering) (p : X → Bool) (b : X) (xs : List X) → ((x : X) → IsMember xs x → is_lt (R x b) ≡ false) → scan R p (Some b) xs ≡ Some b
scan_best R p b [] least = refl
scan_best R p b (x ∷ xs) least =
    ap (λ t. scan R p (cond t (Some x) (Some b)) xs) (ap (λ t. p x && t) (least x (inl refl)) ∙ and-false (p x)) ∙ scan_best R p b xs (λ y there. least y (inr there))

-- if x does not come before t by free bytes, and t is of the better class, x does not come before t
not_before_first : (w : ReplicaSpread) (x t : TargetRow) → class_by_spread w t.rack ≡ 0 → is_better_than x t ≡ false → is_lt (cmp_targets w x t) ≡ false
not_before_first w x t first less = ap (λ n. is_lt (ordering_then (nat_cmp (class_by_spread w x.rack) n) (cmp_of_one_node x t))) first ∙ by (nat_cmp (class_by_spread w x.rack) 0) (cmp_of_one_node x t) (grind (arith, nat_tests)) less
  where
    by : (o r : Ordering) → is_lt o ≡ false → is_lt r ≡ false → is_lt (ordering_then o r) ≡ false
    by Less r e f = cc
    by Equal r e f = f
    by Greater r e f = refl

module _ (C : Cluster) (w : ReplicaSpread) (urgency : Level) (excluded : List ℕ) (len : ℕ) where
  abbrev may : TargetRow → Bool
  may = is_available C w urgency excluded len

  abbrev order : TargetRow → TargetRow → Ordering
  order = cmp_targets w

  -- a target with too few free bytes is not eligible
  too_full : (t : TargetRow) → free_bytes_on t < len → may t ≡ false
  too_full t less = by t.is_draining (nat_le (len + t.scheduled) t.remaining) refl
    where
      by : (a b : Bool) → nat_le (len + t.scheduled) t.remaining ≡ b
          → ((not a && b && not (is_at BadlyDistributed (Some urgency) && is_one w.racks && (class_by_spread w t.rack == 1))) && not (is_excluded_by C excluded t)) ≡ false
      by true b e = refl
      by false false e = refl
      by false true e = let fits = leb-true (len + t.scheduled) t.remaining e in absurd (omega arith)

  module _ (cs : List TargetRow) (ordered : IsInOrder cs) (i : ℕ) (t : TargetRow) (at : slice_get cs i ≡ Some t) (best : Option TargetRow) (inv : scan order may best (drop i cs) ≡ scan order may None cs) where
    -- no target from t on is eligible if t has too few free bytes
    pub ends_below_len : free_bytes_on t < len → scan order may None cs ≡ best
    ends_below_len less = sym inv ∙ ap (scan order may best) (drop_next cs i t at) ∙ scan_none order may best (t ∷ drop (i + 1) cs) (λ x there. none x there)
      where
        none : (x : TargetRow) → IsMember (t ∷ drop (i + 1) cs) x → may x ≡ false
        none x (inl e) = subst (λ x. may x ≡ false) e (too_full t less)
        none x (inr there) =
            let one : i + 1 ≡ suc i = omega arith in
            let more = more_free_bytes t x (behind_at i cs t x ordered at (subst (λ j. IsMember (drop j cs) x) one there)) in
            too_full x (omega arith)

    -- if t is eligible and of the better class, no target after it comes before it
    pub ends_at_first : (may t && is_better order best t) ≡ true → class_by_spread w t.rack ≡ 0 → scan order may None cs ≡ Some t
    ends_at_first taken first =
        sym inv
        ∙ ap (scan order may best) (drop_next cs i t at)
        ∙ ap (λ b. scan order may (cond b (Some t) best) (drop (i + 1) cs)) taken
        ∙ scan_best order may t (drop (i + 1) cs) (λ x there.
        let one : i + 1 ≡ suc i = omega arith in
        not_before_first w x t first (behind_at i cs t x ordered at (subst (λ j. IsMember (drop j cs) x) one there)))

  -- none is left after the last
  pub ends_behind : (cs : List TargetRow) (i : ℕ) (best : Option TargetRow) → length cs ≤ i → scan order may best (drop i cs) ≡ scan order may None cs → scan order may None cs ≡ best
  ends_behind cs i best all inv = sym inv ∙ at_drop_all (λ xs. scan order may best xs) cs i all

-- The invariant of the walk: a scan of the rest from the best so far gives the result of a scan of
-- all. None of the rest comes before the best so far by free bytes.
pub record IsWalked (R : TargetRow → TargetRow → Ordering) (p : TargetRow → Bool) (cs : List TargetRow) (i : ℕ) (best : Option TargetRow) : Type 0 where
  pub scanned : scan R p best (drop i cs) ≡ scan R p None cs
  pub behind : (d : TargetRow) → IsMember (drop i cs) d → IfSome best (λ b. is_better_than d b ≡ false)

module _ (R : TargetRow → TargetRow → Ordering) (p : TargetRow → Bool) (cs : List TargetRow) (i : ℕ) (t : TargetRow) (at : slice_get cs i ≡ Some t) (best : Option TargetRow) (walked : IsWalked R p cs i best) where
  pub here_behind : IfSome best (λ b. is_better_than t b ≡ false)
  here_behind = walked.behind t (subst (λ xs. IsMember xs t) (sym (drop_next cs i t at)) (inl refl))

  one_further : scan R p (cond (p t && is_better R best t) (Some t) best) (drop (i + 1) cs) ≡ scan R p None cs
  one_further = sym (ap (scan R p best) (drop_next cs i t at)) ∙ walked.scanned

  pub walked_past : (p t && is_better R best t) ≡ false → IsWalked R p cs (i + 1) best
  walked_past not_taken = record {
    scanned = ap (λ b. scan R p (cond b (Some t) best) (drop (i + 1) cs)) (sym not_taken) ∙ one_further;
    behind = λ d there. walked.behind d (subst (λ xs. IsMember xs d) (sym (drop_next cs i t at)) (inr there));
  }

  pub walked_with : IsInOrder cs → (p t && is_better R best t) ≡ true → IsWalked R p cs (i + 1) (Some t)
  walked_with ordered taken = record {
    scanned = ap (λ b. scan R p (cond b (Some t) best) (drop (i + 1) cs)) (sym taken) ∙ one_further;
    behind = λ d there. let one : i + 1 ≡ suc i = omega arith in behind_at i cs t d ordered at (subst (λ j. IsMember (drop j cs) d) one there);
  }
