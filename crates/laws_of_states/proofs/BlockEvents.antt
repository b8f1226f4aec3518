-- Changes of a block, or a replica found bad, keep lawful holdings lawful if their checks pass.
use Rattle.std.proofs.Common.{◌≡◌, ℕ, ◌≤◌, Bool, true, false, cond, not, ◌&&◌, Some, None, is_some, IsTrue, refl, sym, ap, subst, ◌∙◌, true≢false, eqb-true, arith, ltb-false}
use Rattle.std.specs.Prelude.{◌==◌, if◌then◌else◌, nat_lt}
use Rattle.std.specs.Ordering.{eq_by_cmp, nat_cmp}
use Rattle.std.proofs.lemmas.Bool.{or_parts, eqb-false, and_from, not-true}
use Rattle.bm_base.specs.declared.replica.ReplicaId.{ReplicaId}
use Rattle.bm_base.specs.declared.replica.Tag.{Tag}
use Rattle.bm_base.specs.declared.replica.Tag.TheVariants.{Good, Stale, Bad, Stray}
use Rattle.bm_base.specs.declared.replica.Marks.{Marks}
use Rattle.bm_base.specs.declared.replica.Stamp.{Stamp}
use Rattle.bm_base.specs.declared.replica.BlockInfo.{BlockInfo}
use Rattle.bm_base.specs.Words.{Map, by_number, get, insert, keep, revise, revise_at, remove, contains_key, Cluster, Holdings, by_replica, replica_cmp, is_good, is_stray, add_block, delete_block, set_replication, restamp, make_bad, without_pending, change_marks_of_block, as_stray, as_bad, as_restamped, knows_block, is_still_stored, is_bad_replication}
use Rattle.bm_base.specs.declared.limits.TheConstants.{MAX_REPLICATION}
use Rattle.bm_base.specs.Promises.Lawful.{IsLawfulHoldings}
use Rattle.bm_base.proofs.MapLaws.{get-remove}
use Rattle.bm_base.proofs.Ties.{number_tie}
use Rattle.bm_base.proofs.Options.{there, is_there}
use Rattle.bm_base.proofs.MapEntries.{Holds, same_key, get_kept, get_removed, get_revised, get_elsewhere, known_inserted, known_revised, holds_inserted, passes_entry}
use Rattle.bm_parts.proofs.RemainingHoldings.{lawful_among, among_here}

fits_replication : (repl : ℕ) → is_bad_replication repl ≡ false → (1 ≤ repl) × (repl ≤ MAX_REPLICATION)
fits_replication repl e =
    let parts = or_parts (repl == 0) (nat_lt MAX_REPLICATION repl) e in
    let other : repl ≡ 0 → ⊥ = eqb-false repl 0 parts.0 in
    (omega arith, ltb-false MAX_REPLICATION repl parts.1)

-- whether an entry is a stray replica of block b
abbrev passing : ℕ → ReplicaId × Marks → Bool
passing b e = (e.0.block == b) && is_stray e.1.tag

no_replica : (H : Holdings) (b : ℕ) → is_still_stored H b ≡ false → (q : ReplicaId) (m : Marks) → get H.replicas q ≡ Some m → (q.block == b) ≡ true → is_stray m.tag ≡ true → ⊥
unfolding is_still_stored
no_replica H b none q m e same stray = true≢false (sym (passes_entry H.replicas (passing b) q m e (and_from (q.block == b) (is_stray m.tag) same stray)) ∙ none)

pub added_lawful : (C : Cluster) (H : Holdings) (b : ℕ) (stamp : Stamp) (repl : ℕ) → IsLawfulHoldings C H → knows_block H b ≡ false → is_still_stored H b ≡ false → is_bad_replication repl ≡ false
    → IsLawfulHoldings C (add_block H b stamp repl)
unfolding add_block knows_block
added_lawful C H b stamp repl L unknown none fine =
    lawful_among C C H (add_block H b stamp repl) L (among_here C H (add_block H b stamp repl) (λ _ e. e) (λ _ e. e))
    (record {
      strays = λ q m e.
          let stray : is_stray m.tag ≡ not (contains_key H.blocks q.block) = L.strays q m e in
          elim (q.block == b) as (λ t. (q.block == b) ≡ t → is_stray m.tag ≡ not (contains_key (insert H.blocks b (record { stamp = stamp; repl = repl })) q.block)) [
            | true ↦ λ t. absurd (no_replica H b none q m e t (stray ∙ ap (λ k. not (contains_key H.blocks k)) (eqb-true q.block b t) ∙ ap not unknown))
            | false ↦ λ t. stray ∙ ap (λ z. not (is_some z)) (sym (get_elsewhere H.blocks b (record { stamp = stamp; repl = repl }) q.block (number_tie q.block b ∙ t)))
          ] refl;
      excess_is_good = L.excess_is_good;
      pending_known = λ q e. known_inserted H.blocks b (record { stamp = stamp; repl = repl }) q.block (L.pending_known q e);
      replicated = holds_inserted (λ _ i. (1 ≤ i.repl) × (i.repl ≤ MAX_REPLICATION)) H.blocks b (record { stamp = stamp; repl = repl }) L.replicated (fits_replication repl fine);
    })

-- the holdings with the marks of a block's replicas changed
module _ (H : Holdings) (b : ℕ) (f : Marks → Marks) where
  abbrev changed : Map by_replica Marks
  changed = revise H.replicas (λ q m. if q.block == b then f m else m)

  was_before : (q : ReplicaId) → is_some (get changed q) ≡ true → is_some (get H.replicas q) ≡ true
  was_before q e = sym (known_revised H.replicas (λ q m. if q.block == b then f m else m) q) ∙ e

  -- a property holds of all marks after the change if it holds of the changed marks of this block,
  -- and of the marks elsewhere
  marks_after : (P : ReplicaId → Marks → Type 0) → ((q : ReplicaId) (m : Marks) → get H.replicas q ≡ Some m → (q.block == b) ≡ true → P q (f m))
      → ((q : ReplicaId) (m : Marks) → get H.replicas q ≡ Some m → (q.block == b) ≡ false → P q m) → Holds P changed
  marks_after P here elsewhere q m e =
      let was = get_revised H.replicas (λ q m. if q.block == b then f m else m) q m e in
      subst (P q) was.2 (elim (q.block == b) as (λ t. (q.block == b) ≡ t → P q (if t then f was.0 else was.0)) [
        | true ↦ λ t. here q was.0 was.1 t
        | false ↦ λ t. elsewhere q was.0 was.1 t
      ] refl)

  pending_left : (q : ReplicaId) → is_some (get (keep H.pending (λ q _. not (q.block == b))) q) ≡ true → (is_some (get H.pending q) ≡ true) × ((q.block == b) ≡ false)
  pending_left q e =
      let x = there (get (keep H.pending (λ q _. not (q.block == b))) q) e in
      let k = get_kept H.pending (λ q _. not (q.block == b)) q x.0 x.1 in
      (is_there (get H.pending q) x.0 k.0, not-true (q.block == b) k.1)

out_of : (m : Map by_number BlockInfo) (b q : ℕ) → (t : Bool) → (q == b) ≡ t → contains_key (remove m b) q ≡ (not t && contains_key m q)
out_of m b q true t = ap is_some (get-remove m b q ∙ ap (λ c. cond c None (get m q)) (number_tie q b ∙ t))
out_of m b q false t = ap is_some (get-remove m b q ∙ ap (λ c. cond c None (get m q)) (number_tie q b ∙ t))

pub deleted_lawful : (C : Cluster) (H : Holdings) (b : ℕ) → IsLawfulHoldings C H → IsLawfulHoldings C (delete_block H b)
unfolding delete_block without_pending change_marks_of_block
deleted_lawful C H b L =
    lawful_among C C H (delete_block H b) L (among_here C H (delete_block H b) (was_before H b as_stray) (λ q e. (pending_left H b as_stray q e).0))
    (record {
      strays = marks_after H b as_stray (λ q m. is_stray m.tag ≡ not (contains_key (remove H.blocks b) q.block))
          (λ q m e t. ap not (sym (out_of H.blocks b q.block true t)))
          (λ q m e t. L.strays q m e ∙ ap not (sym (out_of H.blocks b q.block false t)));
      excess_is_good = marks_after H b as_stray (λ q m. IsTrue m.excess → IsTrue (is_good m.tag)) (λ q m e t in_excess. cc) (λ q m e t. L.excess_is_good q m e);
      pending_known = λ q e. let was = pending_left H b as_stray q e in out_of H.blocks b q.block false was.1 ∙ L.pending_known q was.0;
      replicated = λ c i e. L.replicated c i (get_removed H.blocks b c i e).1;
    })

-- the map with the information on one block changed
module _ (m : Map by_number BlockInfo) (b : ℕ) (f : BlockInfo → BlockInfo) where
  info_known : (q : ℕ) → contains_key (revise_at m b f) q ≡ contains_key m q
  unfolding revise_at
  info_known q = known_revised m (λ q x. if eq_by_cmp nat_cmp q b then f x else x) q

  pub info_after : (P : ℕ → BlockInfo → Type 0) → Holds P m → ((q : ℕ) (x : BlockInfo) → get m q ≡ Some x → P q (f x)) → Holds P (revise_at m b f)
  unfolding revise_at
  info_after P before here q i e =
      let was = get_revised m (λ q x. if eq_by_cmp nat_cmp q b then f x else x) q i e in
      subst (P q) was.2 (elim (eq_by_cmp nat_cmp q b) as (λ t. P q (if t then f was.0 else was.0)) [ true ↦ here q was.0 was.1 | false ↦ before q was.0 was.1 ])

pub replication_lawful : (C : Cluster) (H : Holdings) (b repl : ℕ) → IsLawfulHoldings C H → is_bad_replication repl ≡ false → IsLawfulHoldings C (set_replication H b repl)
unfolding set_replication
replication_lawful C H b repl L fine =
    lawful_among C C H (set_replication H b repl) L (among_here C H (set_replication H b repl) (λ _ e. e) (λ _ e. e))
    (record {
      strays = λ q m e. L.strays q m e ∙ ap not (sym (info_known H.blocks b (λ i. record i { repl = repl }) q.block));
      excess_is_good = L.excess_is_good;
      pending_known = λ q e. info_known H.blocks b (λ i. record i { repl = repl }) q.block ∙ L.pending_known q e;
      replicated = info_after H.blocks b (λ i. record i { repl = repl }) (λ _ i. (1 ≤ i.repl) × (i.repl ≤ MAX_REPLICATION)) L.replicated (λ _ _ _. fits_replication repl fine);
    })

still_no_stray : (t : Tag) → is_stray (if is_good t then Stale else t) ≡ is_stray t
still_no_stray Good = refl
still_no_stray Stale = refl
still_no_stray Bad = refl
still_no_stray Stray = refl

pub restamped_lawful : (C : Cluster) (H : Holdings) (b : ℕ) (stamp : Stamp) → IsLawfulHoldings C H → IsLawfulHoldings C (restamp H b stamp)
unfolding restamp without_pending change_marks_of_block
restamped_lawful C H b stamp L =
    lawful_among C C H (restamp H b stamp) L (among_here C H (restamp H b stamp) (was_before H b as_restamped) (λ q e. (pending_left H b as_restamped q e).0))
    (record {
      strays = marks_after H b as_restamped (λ q m. is_stray m.tag ≡ not (contains_key (revise_at H.blocks b (λ i. record i { stamp = stamp })) q.block))
          (λ q m e _. still_no_stray m.tag ∙ L.strays q m e ∙ ap not (sym (info_known H.blocks b (λ i. record i { stamp = stamp }) q.block)))
          (λ q m e _. L.strays q m e ∙ ap not (sym (info_known H.blocks b (λ i. record i { stamp = stamp }) q.block)));
      excess_is_good = marks_after H b as_restamped (λ q m. IsTrue m.excess → IsTrue (is_good m.tag)) (λ q m e t in_excess. cc) (λ q m e t. L.excess_is_good q m e);
      pending_known = λ q e. info_known H.blocks b (λ i. record i { stamp = stamp }) q.block ∙ L.pending_known q (pending_left H b as_restamped q e).0;
      replicated = info_after H.blocks b (λ i. record i { stamp = stamp }) (λ _ i. (1 ≤ i.repl) × (i.repl ≤ MAX_REPLICATION)) L.replicated (λ q i e. L.replicated q i e);
    })

-- the holdings with one replica found bad
module _ (H : Holdings) (p : ReplicaId) where
  abbrev as_found : ReplicaId → Marks → Marks
  as_found q m = if eq_by_cmp replica_cmp q p then as_bad m else m

  found_after : (P : ReplicaId → Marks → Type 0) → ((m : Marks) → get H.replicas p ≡ Some m → P p (as_bad m)) → Holds P H.replicas → Holds P (revise H.replicas as_found)
  found_after P here before q m e =
      let was = get_revised H.replicas as_found q m e in
      subst (P q) was.2 (elim (eq_by_cmp replica_cmp q p) as (λ t. eq_by_cmp replica_cmp q p ≡ t → P q (if t then as_bad was.0 else was.0)) [
        | true ↦ λ t. let is : q ≡ p = same_key by_replica q p t in subst (λ k. P k (as_bad was.0)) (sym is) (here was.0 (ap (get H.replicas) (sym is) ∙ was.1))
        | false ↦ λ _. before q was.0 was.1
      ] refl)

pub found_lawful : (C : Cluster) (H : Holdings) (p : ReplicaId) → IsLawfulHoldings C H → knows_block H p.block ≡ true → IsLawfulHoldings C (make_bad H p)
unfolding make_bad revise_at knows_block
found_lawful C H p L known =
    lawful_among C C H (make_bad H p) L (among_here C H (make_bad H p) (λ q e. sym (known_revised H.replicas (as_found H p) q) ∙ e) (λ _ e. e))
    (record {
      strays = found_after H p (λ q m. is_stray m.tag ≡ not (contains_key H.blocks q.block)) (λ m e. sym (ap not known)) L.strays;
      excess_is_good = found_after H p (λ q m. IsTrue m.excess → IsTrue (is_good m.tag)) (λ m e in_excess. cc) L.excess_is_good;
      pending_known = L.pending_known;
      replicated = L.replicated;
    })
