-- Scheduling bytes that fit keeps the invariant of a table of storages and its best targets.
use Rattle.std.specs.Prelude.{◌⊎◌, ◌+◌, ◌==◌, option_map, filter_map, position, slice_get}
use Rattle.std.specs.Option.{IfSome}
use Rattle.std.specs.Ordering.{eq_by_cmp, nat_cmp}
use Rattle.std.proofs.Common.{◌≡◌, ◌≤◌, ℕ, Bool, true, false, cond, List, get_or, Option, Some, None, refl, inl, inr, sym, ap, subst, ◌∙◌, arith, true≢false}
use Rattle.std.proofs.lemmas.Bool.{eqb-true}
use Rattle.std.proofs.lemmas.List.Quantifiers.{position-Some}
use Rattle.std.proofs.lemmas.Option.{same_Some, none-some, slice_get-get_or, slice_get_within}
use Rattle.bm_base.specs.Words.{Map, by_number, get, revise_at, has, has_storage, Cluster}
use Rattle.bm_base.proofs.MapLaws.{get-revise}
use Rattle.bm_base.proofs.MapEntries.{get_revised}
use Rattle.bm_base.proofs.Ties.{number_tie}
use Rattle.bm_maps.proofs.ReplaceLaws.{no_change}
use Rattle.bm_place.specs.declared.scheduled_bytes.TargetRow.{TargetRow}
use Rattle.bm_place.specs.Targets.{free_bytes_on}
use Rattle.bm_place.specs.Scan.{scan}
use Rattle.bm_place.specs.BestTargets.{AreOf, IsMember, IsKept, CanReplace, are_of_one_node, is_better_than, cmp_of_one_node, reposition}
use Rattle.bm_place.proofs.SameNodeTargets.{IsLike, like, alike, like_back, like_then, like_itself, less_free_bytes, ranks}
use Rattle.bm_place.proofs.ScanStart.{found}
use Rattle.bm_place.proofs.ListIndices.{made_among, of_made, has_among}
use Rattle.bm_place.proofs.NonePasses.{none_passes}
use Rattle.bm_place.proofs.SortedTargets.{without, among_put, put_among, of_without, here_or_without, among_at, apart_without, only_alike, put_in_order}

-- len bytes more are scheduled to a target
abbrev pub sent_more : ℕ → TargetRow → TargetRow
sent_more len t = record t { scheduled = t.scheduled + len }

module _ (rows : Map by_number TargetRow) (target len : ℕ) where
  abbrev pub added : Map by_number TargetRow
  added = revise_at rows target (sent_more len)

  -- a row before the transfer
  pub row_before : (s : ℕ) (t : TargetRow) → get added s ≡ Some t → (x : TargetRow) × (get rows s ≡ Some x) × (cond (s == target) (sent_more len x) x ≡ t)
  unfolding revise_at
  row_before s t is =
      let h = get_revised rows (λ q x. cond (eq_by_cmp nat_cmp q target) (sent_more len x) x) s t is in
      (h.0, h.1, ap (λ b. cond b (sent_more len h.0) h.0) (sym (number_tie s target)) ∙ h.2)

  row_after : (s : ℕ) (x : TargetRow) → get rows s ≡ Some x → get added s ≡ Some (cond (s == target) (sent_more len x) x)
  unfolding revise_at
  row_after s x is =
      get-revise rows (λ q x. cond (eq_by_cmp nat_cmp q target) (sent_more len x) x) s
      ∙ (λ i. option_map (λ x. cond (number_tie s target i) (sent_more len x) x) (is i))

  same_storage : (b : Bool) (x : TargetRow) → (cond b (sent_more len x) x).storage ≡ x.storage
  same_storage true x = refl
  same_storage false x = refl

  like_before : (b : Bool) (x : TargetRow) → IsLike (cond b (sent_more len x) x) x
  like_before true x = record { node = refl; rack = refl; is_draining = refl }
  like_before false x = like_itself x

  no_more_free_bytes : (b : Bool) (x : TargetRow) → free_bytes_on (cond b (sent_more len x) x) ≤ free_bytes_on x
  no_more_free_bytes true x = omega arith
  no_more_free_bytes false x = omega arith

  -- the best target of a row stays so with more scheduled to the row
  still_replaces : (b : Bool) (c x : TargetRow) → CanReplace c x → CanReplace c (cond b (sent_more len x) x)
  still_replaces b c x h = record {
    alike = alike c (cond b (sent_more len x) x) (like_then c x (cond b (sent_more len x) x) (like c x h.alike) (like_back (cond b (sent_more len x) x) x (like_before b x)));
    before = ranks.chain (cond b (sent_more len x) x) x c (less_free_bytes (cond b (sent_more len x) x) x (same_storage b x) (no_more_free_bytes b x)) h.before;
  }

  module _ (cs : List TargetRow) (kept : IsKept rows cs) (fits : IfSome (get rows target) (λ t. len + t.scheduled ≤ t.remaining)) where
    at_storage : (s : ℕ) (t : TargetRow) → get added s ≡ Some t → t.storage ≡ s
    at_storage s t e = let h = row_before s t e in ap (λ (t : TargetRow). t.storage) (sym h.2) ∙ same_storage (s == target) h.0 ∙ kept.at_storage s h.0 h.1

    within : (s : ℕ) (t : TargetRow) → get added s ≡ Some t → t.scheduled ≤ t.remaining
    within s t e = let h = row_before s t e in by (s == target) refl h.0 h.1 h.2
      where
        by : (b : Bool) → (s == target) ≡ b → (x : TargetRow) → get rows s ≡ Some x → cond b (sent_more len x) x ≡ t → t.scheduled ≤ t.remaining
        by true same x at more =
            let enough_bytes : len + x.scheduled ≤ x.remaining = subst (λ o. IfSome o (λ (t : TargetRow). len + t.scheduled ≤ t.remaining)) (ap (get rows) (sym (eqb-true s target same)) ∙ at) fits in
            subst (λ (t : TargetRow). t.scheduled ≤ t.remaining) more (omega arith)
        by false same x at other = subst (λ (t : TargetRow). t.scheduled ≤ t.remaining) other (kept.within s x at)

    -- the best target of a row stays so
    still_first : (t : TargetRow) → get added t.storage ≡ Some t → (c : TargetRow) × IsMember cs c × CanReplace c t
    still_first t e =
        let h = row_before t.storage t e in
        let old = kept.best_targets.first h.0 (ap (get rows) (kept.at_storage t.storage h.0 h.1) ∙ h.1) in
        (old.0, old.1, subst (CanReplace old.0) h.2 (still_replaces (t.storage == target) old.0 h.0 old.2))

    -- a target other than this one is unchanged
    still_known : (c : TargetRow) → IsMember cs c → (c.storage == target) ≡ false → get added c.storage ≡ Some c
    still_known c among other = row_after c.storage c (kept.best_targets.known c among) ∙ ap (λ b. Some (cond b (sent_more len c) c)) other

    -- if the target is not among the best ones, they stay the best ones
    pub kept_apart : ((c : TargetRow) → IsMember cs c → (c.storage == target) ≡ false) → IsKept added cs
    kept_apart apart = record {
      at_storage = λ s t e. at_storage s t e;
      within = λ s t e. within s t e;
      best_targets =
          record {
            known = λ c among. still_known c among (apart c among);
            first = λ t e. still_first t e;
            within = λ c among. within c.storage c (still_known c among (apart c among));
            ordered = kept.best_targets.ordered;
          };
    }

    module _ (place : ℕ) (row old best : TargetRow) (there : get added target ≡ Some row) (at : slice_get cs place ≡ Some old) (of_target : old.storage ≡ target) (ts : List TargetRow) (part : (t : TargetRow) → IsMember ts t → get added t.storage ≡ Some t)
        (all : (s : ℕ) (t : TargetRow) → get added s ≡ Some t → are_of_one_node t row ≡ true → IsMember ts t) (is : scan cmp_of_one_node (λ c. are_of_one_node c row) (Some row) ts ≡ Some best) where
      facts : (row ≡ best) ⊎ IsMember ts best
      facts = (found (λ c. are_of_one_node c row) row best ts is).among

      best_known : get added best.storage ≡ Some best
      best_known = elim facts [
        | inl e ↦ ap (λ (t : TargetRow). get added t.storage) (sym e) ∙ ap (get added) (at_storage target row there) ∙ there ∙ ap Some e
        | inr among ↦ part best among
      ]

      best_like : IsLike best row
      best_like = like best row ((found (λ c. are_of_one_node c row) row best ts is).passes (alike row row (like_itself row)))

      -- the best target of the node replaces for each row of the node
      stood_for_by_best : (s : ℕ) (t : TargetRow) → get added s ≡ Some t → IsLike t row → CanReplace best t
      stood_for_by_best s t e h = record {
        alike = alike best t (like_then best row t best_like (like_back t row h));
        before = (found (λ c. are_of_one_node c row) row best ts is).all t (all s t e (alike t row h)) (alike t row h);
      }

      old_among : IsMember cs old
      old_among = among_at place cs old at

      -- the target at the index is of the node
      old_like : IsLike old row
      old_like =
          let h = row_before target row there in
          let one = same_Some old h.0 (sym (kept.best_targets.known old old_among) ∙ ap (get rows) of_target ∙ h.1) in
          subst (λ c. IsLike c row) (sym one) (subst (IsLike h.0) h.2 (like_back (cond (target == target) (sent_more len h.0) h.0) h.0 (like_before (target == target) h.0)))

      -- the best target was after the one at the index before, and has no more free bytes now
      not_before_old : is_better_than best old ≡ false
      not_before_old =
          let first = still_first best best_known in
          let like_old = like_then old row best old_like (like_back best row best_like) in
          let one = only_alike place cs old first.0 kept.best_targets.ordered at first.1 (alike old first.0 (like_then old best first.0 like_old (like_back first.0 best (like first.0 best first.2.alike)))) in
          subst (λ c. is_better_than best c ≡ false) (sym one) first.2.before

      -- the others have other storages
      other_storage : (c : TargetRow) → IsMember (without place cs) c → (c.storage == target) ≡ false
      other_storage c among = by (c.storage == target) refl
        where
          by : (b : Bool) → (c.storage == target) ≡ b → (c.storage == target) ≡ false
          by false e = e
          by true e =
              let one = same_Some old c (sym (kept.best_targets.known old old_among) ∙ ap (get rows) (of_target ∙ sym (eqb-true c.storage target e)) ∙ kept.best_targets.known c (of_without place cs c among)) in
              absurd (true≢false (sym (alike old c (subst (IsLike old) one (like_itself old))) ∙ apart_without place cs old c kept.best_targets.ordered at among))

      known : (c : TargetRow) → IsMember (reposition best place cs) c → get added c.storage ≡ Some c
      known c among =
          elim (among_put place cs best c among) [
            | inl e ↦ subst (λ (c : TargetRow). get added c.storage ≡ Some c) e best_known
            | inr other ↦ still_known c (of_without place cs c other) (other_storage c other)
          ]

      first_of : (t : TargetRow) → get added t.storage ≡ Some t → (c : TargetRow) × IsMember (reposition best place cs) c × CanReplace c t
      first_of t e =
          let h = still_first t e in
          elim (here_or_without place cs old h.0 at h.1) [
            | inl same ↦
                let replaces = subst (λ c. CanReplace c t) (sym same) h.2 in
                (best, put_among place cs best best (slice_get_within cs place old at) (inl refl), stood_for_by_best t.storage t e (like_then t old row (like_back old t (like old t replaces.alike)) old_like))
            | inr other ↦ (h.0, put_among place cs best h.0 (slice_get_within cs place old at) (inr other), h.2)
          ]

      -- if the node's best target replaces the target
      pub kept_added : IsKept added (reposition best place cs)
      kept_added = record {
        at_storage = λ s t e. at_storage s t e;
        within = λ s t e. within s t e;
        best_targets =
            record {
              known = λ c h. known c h;
              first = λ t e. first_of t e;
              within = λ c h. within c.storage c (known c h);
              ordered = put_in_order place cs old best kept.best_targets.ordered at (alike old best (like_then old row best old_like (like_back best row best_like))) not_before_old;
            };
      }

  -- each row is of its storage of the cluster still
  pub still_of : (C : Cluster) → AreOf C rows → AreOf C added
  still_of C placed s t is =
      let h = row_before s t is in
      let n = placed s h.0 h.1 in
      (n.0, ap (λ (u : TargetRow). u.node) (sym h.2) ∙ (like_before (s == target) h.0).node ∙ n.1, n.2)

-- what is kept, for equal lists, if the best target is found among the storages of the node
pub kept_renewed : (C : Cluster) (old new : Map by_number TargetRow) (target len : ℕ) (cs ds : List TargetRow) (near : List ℕ) (row best : TargetRow) (place : ℕ) → IsKept old cs → IfSome (get old target) (λ t. len + t.scheduled ≤ t.remaining)
    → new ≡ revise_at old target (sent_more len) → get new target ≡ Some row → position (λ c. c.storage == target) cs ≡ Some place → AreOf C new → ((n s : ℕ) → row.node ≡ Some n → has near s ≡ has_storage C n s)
    → scan cmp_of_one_node (λ c. are_of_one_node c row) (Some row) (filter_map (λ s. get new s) near) ≡ Some best → ds ≡ reposition best place cs → IsKept new ds
kept_renewed C old new target len cs ds near row best place kept fits made there placed of_cluster nearby is put =
    let p = position-Some (λ (c : TargetRow). c.storage == target) cs place row placed in
    let c = get_or cs place row in
    subst (λ m. IsKept m ds) (sym made)
    (subst (IsKept (added old target len)) (sym put) (kept_added old target len cs kept fits place row c best (ap (λ m. get m target) (sym made) ∙ there) (slice_get-get_or cs place row p.0) (eqb-true c.storage target p.1) ts part all (ap (λ m. scan cmp_of_one_node (λ c. are_of_one_node c row) (Some row) (filter_map (λ s. get m s) near)) (sym made) ∙ is)))
  where
    rows : Map by_number TargetRow
    rows = added old target len

    ts : List TargetRow
    ts = filter_map (λ s. get rows s) near

    row_at : (s : ℕ) (t : TargetRow) → get rows s ≡ Some t → t.storage ≡ s
    row_at s t e = at_storage old target len cs kept fits s t e

    part : (t : TargetRow) → IsMember ts t → get rows t.storage ≡ Some t
    part t h =
        let e = of_made (λ s. get rows s) near t h in
        ap (get rows) (row_at e.0 t e.1) ∙ e.1

    all : (s : ℕ) (t : TargetRow) → get rows s ≡ Some t → are_of_one_node t row ≡ true → IsMember ts t
    all s t e same =
        let n = of_cluster s t (ap (λ m. get m s) made ∙ e) in
        made_among (λ s. get rows s) near s t (has_among near s (nearby n.0 s (sym (like t row same).node ∙ n.1) ∙ n.2)) e

-- if the target is not among the best ones, or is unknown
pub kept_same : (old new : Map by_number TargetRow) (target len : ℕ) (cs : List TargetRow) → IsKept old cs → IfSome (get old target) (λ t. len + t.scheduled ≤ t.remaining) → new ≡ revise_at old target (sent_more len)
    → position (λ c. c.storage == target) cs ≡ None → IsKept new cs
kept_same old new target len cs kept fits made none = subst (λ m. IsKept m cs) (sym made) (kept_apart old target len cs kept fits (λ c there. none_passes (λ (c : TargetRow). c.storage == target) cs none c there))

-- for an unknown storage nothing changes
pub kept_unknown : (old new : Map by_number TargetRow) (target len : ℕ) (cs : List TargetRow) → IsKept old cs → new ≡ revise_at old target (sent_more len) → get new target ≡ None → IsKept new cs
kept_unknown old new target len cs kept made none =
    subst (λ m. IsKept m cs) (no_change old target (sent_more len) (by (get old target) refl) ∙ sym made) kept
  where
    by : (o : Option TargetRow) → get old target ≡ o → get old target ≡ None
    by None e = e
    by (Some x) e = let there = row_after old target len target x e in absurd (none-some _ (sym none ∙ ap (λ m. get m target) made ∙ there))
