-- Replicas that are sorted by block and storage: which comes next, and which are in excess.
use Rattle.std.proofs.Common.{◌≡◌, ◌∙◌, ℕ, ◌+◌, ◌<◌, ◌≤◌, Bool, true, false, cond, not, List, [], ◌∷◌, Option, Some, None, refl, sym, ap, subst, map, filter, length, drop, arith, T}
use Rattle.std.specs.Prelude.{◌==◌, ◌&&◌, zero, suc, nat_lt, slice_get}
use Rattle.std.specs.Option.{option_map_or}
use Rattle.std.specs.Ordering.{is_lt, nat_cmp, ordering_then, eq_by_cmp}
use Rattle.std.specs.declared.cmp.Ordering.TheVariants.{Less, Equal, Greater}
use Rattle.std.specs.FinMap.{is_sorted}
use Rattle.std.specs.FinMap.Entries.{below_all}
use Rattle.std.proofs.lemmas.Bool.{eqb-true, eq-eqb, ltb-true}
use Rattle.bm_base.specs.Maps.Conjunction.{first, second}
use Rattle.bm_base.specs.declared.replica.ReplicaId.{ReplicaId}
use Rattle.bm_base.specs.declared.replica.Marks.{Marks}
use Rattle.bm_base.specs.Words.{by_replica, replica_cmp}
use Rattle.bm_base.proofs.MapEntries.{same_key, key_itself}
use Rattle.bm_base.proofs.MapLaws.{equal}
use Rattle.bm_base.proofs.Ties.{replica_tie}
use Rattle.cluster_lost.specs.Passes.{Marked, Ascends, excess_in, is_next}

-- Order.

not_greater : (a b : ℕ) (lt eq : Bool) (r : _) → nat_lt a b ≡ lt → (a == b) ≡ eq → T (is_lt (ordering_then (cond lt Less (cond eq Equal Greater)) r)) → a ≤ b
not_greater a b true eq r l e h = omega (arith, ltb-true a b l)
not_greater a b false true r l e h = omega (arith, eqb-true a b e)
not_greater a b false false r l e h = absurd h

block_of_later : (p q : ReplicaId) → T (is_lt (replica_cmp p q)) → p.block ≤ q.block
block_of_later p q h = not_greater p.block q.block (nat_lt p.block q.block) (p.block == q.block) (nat_cmp p.storage q.storage) refl refl h

pub ascends : (es : List Marked) (t : ℕ) → T (is_sorted replica_cmp es) → ((e : Marked) → (rest : List Marked) → es ≡ e ∷ rest → t ≤ e.0.block) → Ascends t es
ascends [] t up first_one = tt
ascends (e ∷ []) t up first_one = (first_one e [] refl, tt)
ascends (e ∷ f ∷ es) t up first_one = (first_one e (f ∷ es) refl, ascends (f ∷ es) e.0.block (second _ _ up) (λ g rest is. subst (λ (x : Marked). e.0.block ≤ x.0.block) (heads f es g rest is) (block_of_later e.0 f.0 (first _ _ (first _ _ up)))))
  where
    heads : (f : Marked) (es : List Marked) (g : Marked) (rest : List Marked) → f ∷ es ≡ g ∷ rest → f ≡ g
    heads f es g rest is = cc

-- Excess.

pub above_block : (e : Marked) (es : List Marked) → T (is_sorted replica_cmp (e ∷ es)) → Ascends e.0.block es
above_block e [] up = tt
above_block e (f ∷ es) up = ascends (f ∷ es) e.0.block (second _ _ up) (λ g rest is. subst (λ (x : Marked). e.0.block ≤ x.0.block) (same_head f es g rest is) (block_of_later e.0 f.0 (first _ _ (first _ _ up))))
  where
    same_head : (f : Marked) (es : List Marked) (g : Marked) (rest : List Marked) → f ∷ es ≡ g ∷ rest → f ≡ g
    same_head f es g rest is = cc

abbrev same_id : ReplicaId → ReplicaId → Bool
same_id q p = (q.block == p.block) && (q.storage == p.storage)

-- a later replica differs in its block or its storage
later_differ : (p q : ReplicaId) → T (is_lt (replica_cmp p q)) → same_id q p ≡ false
later_differ p q h = by (same_id q p) refl
  where
    by : (b : Bool) → same_id q p ≡ b → b ≡ false
    by false e = refl
    by true e =
        let same : p ≡ q = sym (same_key by_replica q p (replica_tie q p ∙ e)) in
        let tied : replica_cmp p q ≡ Equal = equal (replica_cmp p q) (ap (λ x. eq_by_cmp replica_cmp p x) (sym same) ∙ key_itself by_replica p) in
        absurd (subst (λ r. T (is_lt r)) tied h)

head_differs : (p : ReplicaId) (es : List Marked) → T (below_all replica_cmp p es) → option_map_or (λ q. same_id q p) (slice_get (excess_in es) 0) false ≡ false
head_differs p [] h = refl
head_differs p (e ∷ es) h =
    (elim (e.1.excess) as (λ b. option_map_or (λ (q : ReplicaId). same_id q p) (slice_get (map (λ (x : Marked). x.0) (cond b (e ∷ filter (λ (x : Marked). x.1.excess) es) (filter (λ (x : Marked). x.1.excess) es))) 0) false ≡ false) [
      | true ↦ later_differ p e.0 (first _ _ h)
      | false ↦ head_differs p es (second _ _ h)
    ])

get_of_drop : {X : Type 0} (xs : List X) (i : ℕ) → slice_get xs i ≡ slice_get (drop i xs) 0
get_of_drop [] zero = refl
get_of_drop [] (suc i) = refl
get_of_drop (x ∷ xs) zero = refl
get_of_drop (x ∷ xs) (suc i) = get_of_drop xs i

drop_one : {X : Type 0} (xs : List X) (i : ℕ) (x : X) (rest : List X) → drop i xs ≡ x ∷ rest → drop (i + 1) xs ≡ rest
drop_one xs i x rest is = let one : i + 1 ≡ suc i = omega arith in ap (λ n. drop n xs) one ∙ by xs i is
  where
    by : (xs : List _) (i : ℕ) → drop i xs ≡ x ∷ rest → drop (suc i) xs ≡ rest
    by [] zero is = cc
    by [] (suc i) is = cc
    by (y ∷ xs) zero is = cc
    by (y ∷ xs) (suc i) is = by xs i is

pub next_excess : (excess : List ReplicaId) (passed : ℕ) (e : Marked) (es : List Marked) → T (is_sorted replica_cmp (e ∷ es)) → drop passed excess ≡ excess_in (e ∷ es)
    → is_next excess passed e.0 ≡ e.1.excess
next_excess excess passed e es up left =
    ap (λ o. option_map_or (λ q. same_id q e.0) o false) (get_of_drop excess passed ∙ ap (λ xs. slice_get xs 0) left)
    ∙ (elim (e.1.excess) as (λ b. option_map_or (λ (q : ReplicaId). same_id q e.0) (slice_get (map (λ (x : Marked). x.0) (cond b (e ∷ filter (λ (x : Marked). x.1.excess) es) (filter (λ (x : Marked). x.1.excess) es))) 0) false ≡ b) [
      | true ↦ ap (λ b. b && (e.0.storage == e.0.storage)) (eq-eqb e.0.block e.0.block refl) ∙ eq-eqb e.0.storage e.0.storage refl
      | false ↦ head_differs e.0 es (first _ _ up)
    ])

pub excess_passed : (excess : List ReplicaId) (passed : ℕ) (e : Marked) (es : List Marked) → drop passed excess ≡ excess_in (e ∷ es)
    → drop (cond e.1.excess (passed + 1) passed) excess ≡ excess_in es
excess_passed excess passed e es left =
    (elim (e.1.excess) as (λ b. drop passed excess ≡ map (λ (x : Marked). x.0) (cond b (e ∷ filter (λ (x : Marked). x.1.excess) es) (filter (λ (x : Marked). x.1.excess) es)) → drop (cond b (passed + 1) passed) excess ≡ excess_in es) [
      | true ↦ λ is. drop_one excess passed e.0 (excess_in es) is
      | false ↦ λ is. is
    ]) left
