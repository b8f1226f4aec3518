-- A storage is in a block's list exactly if its replica of the block passes the list's test, and it
-- is there once.
use Rattle.std.specs.Prelude.{◌≡◌, ℕ, Bool, true, false, ◌&&◌, ◌||◌, ◌==◌, List, [], ◌∷◌, map, filter, Some, None, T}
use Rattle.std.specs.Option.{option_map_or}
use Rattle.std.specs.List.{list_any}
use Rattle.std.specs.Ordering.{eq_by_cmp}
use Rattle.std.specs.FinMap.{find, is_sorted}
use Rattle.std.specs.FinMap.Entries.{below_all}
use Rattle.std.proofs.Common.{inl, inr, cond, refl, sym, ap, subst, ◌∙◌}
use Rattle.std.proofs.lemmas.Bool.{cases_Bool, eqb-true}
use Rattle.std.proofs.Math.Bool.{and-false}
use Rattle.bm_base.specs.Maps.Conjunction.{first, second}
use Rattle.bm_base.specs.declared.replica.ReplicaId.{ReplicaId}
use Rattle.bm_base.specs.declared.replica.Marks.{Marks}
use Rattle.bm_base.specs.Maps.Map.{Map, Order, get, entries, revise}
use Rattle.bm_base.specs.Machine.State.{Holdings, by_replica, replica_cmp, replica_at}
use Rattle.bm_base.specs.Maps.Lists.{has, has_repeats}
use Rattle.bm_base.specs.Machine.Replicas.{storages_where}
use Rattle.bm_base.proofs.MapLaws.{find_below, entries-revise}
use Rattle.bm_base.proofs.Ties.{replica_tie}
use Rattle.bm_base.proofs.Clusters.{eqb_turned}
use Rattle.bm_base.proofs.MapEntries.{same_key}
use Rattle.bm_base.proofs.ListTests.{any_map, any_filter, any_agree}

module _ {K X : Type 0} (o : Order K) where
  -- at most one of the sorted entries has the key
  pub any_at : (k : K) (p : X → Bool) (es : List (K × X)) → T (is_sorted o.cmp es)
      → list_any (λ e. eq_by_cmp o.cmp k e.0 && p e.1) es ≡ option_map_or p (find o.cmp k es) false
  any_at k p [] h = refl
  any_at k p (e ∷ es) h =
      let rest = any_at k p es (second _ _ h) in
      elim (eq_by_cmp o.cmp k e.0) as (λ b. eq_by_cmp o.cmp k e.0 ≡ b → ((b && p e.1) || list_any (λ f. eq_by_cmp o.cmp k f.0 && p f.1) es) ≡ option_map_or p (cond b (Some e.1) (find o.cmp k es)) false) [
        | true ↦ λ t.
            let none : find o.cmp k es ≡ None = find_below o.cmp k es (subst (λ q. T (below_all o.cmp q es)) (sym (same_key o k e.0 t)) (first _ _ h)) in
            ap (λ b. p e.1 || b) (rest ∙ ap (λ v. option_map_or p v false) none) ∙ (elim (p e.1) as (λ b. (b || false) ≡ b) [ true ↦ refl | false ↦ refl ])
        | false ↦ λ _. rest
      ] refl

-- Storages of a block.

pub any_replica : {X : Type 0} (m : Map by_replica X) (k : ReplicaId) (p : X → Bool)
    → list_any (λ e. eq_by_cmp replica_cmp k e.0 && p e.1) (entries m) ≡ option_map_or p (get m k) false
unfolding get entries
any_replica m k p = any_at by_replica k p m.list m.sorted

-- the storages of the entries of a block that pass
abbrev pub listed : {X : Type 0} → (ℕ → X → Bool) → ℕ → List (ReplicaId × X) → List ℕ
listed p b es = map (λ e. e.0.storage) (filter (λ e. (e.0.block == b) && p e.0.storage e.1) es)

-- next to the test that a storage is s, any test of the storage is one of s
on_storage : {X : Type 0} (x : Bool) (p : ℕ → X → Bool) (t s : ℕ) (v : X) → ((x && p t v) && (t == s)) ≡ ((x && p s v) && (t == s))
on_storage x p t s v =
    elim (cases_Bool (t == s)) [
      | inl same ↦ ap (λ u. (x && p u v) && (t == s)) (eqb-true t s same)
      | inr other ↦ rw other (and-false (x && p t v) ∙ sym (and-false (x && p s v)))
    ]

turned : (x y z u : Bool) → x ≡ u → ((x && y) && z) ≡ ((u && z) && y)
turned x y z u e =
    ap (λ t. (t && y) && z) e
    ∙ (elim u as (λ t. ((t && y) && z) ≡ ((t && z) && y)) [ true ↦ (elim y as (λ r. (r && z) ≡ (z && r)) [ true ↦ (elim z as (λ s. s ≡ (s && true)) [ true ↦ refl | false ↦ refl ]) | false ↦ (elim z as (λ s. false ≡ (s && false)) [ true ↦ refl | false ↦ refl ]) ]) | false ↦ refl ])

at_key : {X : Type 0} (p : ℕ → X → Bool) (b s : ℕ) (e : ReplicaId × X)
    → (((e.0.block == b) && p e.0.storage e.1) && (e.0.storage == s)) ≡ (eq_by_cmp replica_cmp (replica_at b s) e.0 && p s e.1)
at_key p b s e =
    on_storage (e.0.block == b) p e.0.storage s e.1
    ∙ turned (e.0.block == b) (p s e.1) (e.0.storage == s) (b == e.0.block) (eqb_turned e.0.block b)
    ∙ ap (λ t. ((b == e.0.block) && t) && p s e.1) (eqb_turned e.0.storage s)
    ∙ ap (λ t. t && p s e.1) (sym (replica_tie (replica_at b s) e.0))

any_listed : {X : Type 0} (p : ℕ → X → Bool) (b s : ℕ) (es : List (ReplicaId × X))
    → has (listed p b es) s ≡ list_any (λ e. eq_by_cmp replica_cmp (replica_at b s) e.0 && p s e.1) es
any_listed p b s es =
    any_map (λ t. t == s) (λ e. e.0.storage) (filter (λ e. (e.0.block == b) && p e.0.storage e.1) es)
    ∙ any_filter (λ e. e.0.storage == s) (λ e. (e.0.block == b) && p e.0.storage e.1) es
    ∙ any_agree (λ e. ((e.0.block == b) && p e.0.storage e.1) && (e.0.storage == s)) (λ e. eq_by_cmp replica_cmp (replica_at b s) e.0 && p s e.1) (at_key p b s) es

pub has_listed : {X : Type 0} (m : Map by_replica X) (p : ℕ → X → Bool) (b s : ℕ) → has (listed p b (entries m)) s ≡ option_map_or (p s) (get m (replica_at b s)) false
has_listed m p b s = any_listed p b s (entries m) ∙ any_replica m (replica_at b s) (p s)

-- a storage is in a block's list exactly if its replica of the block passes
pub has_where : (p : ℕ → Marks → Bool) (H : Holdings) (b s : ℕ) → has (storages_where p H b) s ≡ option_map_or (p s) (get H.replicas (replica_at b s)) false
unfolding storages_where
has_where p H b s = has_listed H.replicas p b s

once_listed : {X : Type 0} (p : ℕ → X → Bool) (b : ℕ) (es : List (ReplicaId × X)) → T (is_sorted replica_cmp es) → has_repeats (listed p b es) ≡ false
once_listed p b [] h = refl
once_listed p b (e ∷ es) h =
    let rest = once_listed p b es (second _ _ h) in
    elim (e.0.block == b) as (λ t. (e.0.block == b) ≡ t → has_repeats (map (λ f. f.0.storage) (cond (t && p e.0.storage e.1) (e ∷ filter (λ f. (f.0.block == b) && p f.0.storage f.1) es) (filter (λ f. (f.0.block == b) && p f.0.storage f.1) es))) ≡ false) [
      | true ↦ λ t.
          let none : find replica_cmp (replica_at b e.0.storage) es ≡ None =
          ap (λ c. find replica_cmp (replica_at c e.0.storage) es) (sym (eqb-true e.0.block b t)) ∙ find_below replica_cmp e.0 es (first _ _ h) in
          let alone : has (listed p b es) e.0.storage ≡ false =
          any_listed p b e.0.storage es ∙ any_at by_replica (replica_at b e.0.storage) (p e.0.storage) es (second _ _ h) ∙ ap (λ v. option_map_or (p e.0.storage) v false) none in
          elim (p e.0.storage e.1) as (λ u. has_repeats (map (λ f. f.0.storage) (cond u (e ∷ filter (λ f. (f.0.block == b) && p f.0.storage f.1) es) (filter (λ f. (f.0.block == b) && p f.0.storage f.1) es))) ≡ false) [
            | true ↦ ap (λ u. u || has_repeats (listed p b es)) alone ∙ rest
            | false ↦ rest
          ]
      | false ↦ λ _. rest
    ] refl

once_by_replica : {X : Type 0} (m : Map by_replica X) (p : ℕ → X → Bool) (b : ℕ) → has_repeats (listed p b (entries m)) ≡ false
unfolding entries
once_by_replica m p b = once_listed p b m.list m.sorted

pub once_where : (p : ℕ → Marks → Bool) (H : Holdings) (b : ℕ) → has_repeats (storages_where p H b) ≡ false
unfolding storages_where
once_where p H b = once_by_replica H.replicas p b

-- if marks are revised, the list has the storages whose revised marks pass
revised_list : (p : ℕ → Marks → Bool) (b : ℕ) (f : ReplicaId → Marks → Marks) (es : List (ReplicaId × Marks))
    → listed p b (map (λ e. (e.0, f e.0 e.1)) es) ≡ map (λ e. e.0.storage) (filter (λ e. (e.0.block == b) && p e.0.storage (f e.0 e.1)) es)
revised_list p b f [] = refl
revised_list p b f (e ∷ es) =
    let rest = revised_list p b f es in
    elim ((e.0.block == b) && p e.0.storage (f e.0 e.1)) as (λ t. map (λ (d : ReplicaId × Marks). d.0.storage) (cond t ((e.0, f e.0 e.1) ∷ filter (λ d. (d.0.block == b) && p d.0.storage d.1) (map (λ d. (d.0, f d.0 d.1)) es)) (filter (λ d. (d.0.block == b) && p d.0.storage d.1) (map (λ d. (d.0, f d.0 d.1)) es)))
    ≡ map (λ (d : ReplicaId × Marks). d.0.storage) (cond t (e ∷ filter (λ d. (d.0.block == b) && p d.0.storage (f d.0 d.1)) es) (filter (λ d. (d.0.block == b) && p d.0.storage (f d.0 d.1)) es))) [
      | true ↦ ap (λ ss. e.0.storage ∷ ss) rest
      | false ↦ rest
    ]

pub revised_where : (p : ℕ → Marks → Bool) (H : Holdings) (b : ℕ) (f : ReplicaId → Marks → Marks)
    → listed p b (entries (revise H.replicas f)) ≡ map (λ e. e.0.storage) (filter (λ e. (e.0.block == b) && p e.0.storage (f e.0 e.1)) (entries H.replicas))
revised_where p H b f = ap (listed p b) (entries-revise by_replica H.replicas f) ∙ revised_list p b f (entries H.replicas)
