-- A change of one block's targets changes the map of the transfers at that block alone.
use Rattle.std.specs.Prelude.{◌≡◌, ◌≤◌, ◌<◌, ◌+◌, ℕ, Bool, true, false, cond, not, ◌==◌, ◌&&◌, List, [], filter, nat_eq, Option, None, Some, option_and_then, option_map, T}
use Rattle.std.specs.Option.{option_map_or, unwrap_or}
use Rattle.std.specs.Ordering.{nat_cmp}
use Rattle.std.specs.Cmp.{nat_eq_equiv, nat_cmp_total}
use Rattle.std.specs.FinMap.{find, put, is_sorted}
use Rattle.std.specs.FinMap.Entries.{find-put, is_sorted-put}
use Rattle.std.specs.Map.{lookup}
use Rattle.std.proofs.Common.{refl, sym, ap, subst, ◌∙◌, arith}
use Rattle.std.proofs.lemmas.Map.Made.{lookup-map_values}
use Rattle.bm_base.specs.declared.replica.ReplicaId.{ReplicaId}
use Rattle.bm_base.specs.Words.{Map, by_number, empty, entries, get, insert, keep, remove, by_replica, replica_at}
use Rattle.bm_base.proofs.MapLaws.{same_map, get-insert, get-keep, get-remove, entries-keep}
use Rattle.bm_base.proofs.MapEntries.{one_out}
use Rattle.bm_base.proofs.Ties.{number_tie, replica_tie}
use Rattle.bm_pending.specs.PendingMap.{PendingMap, capacity}
use Rattle.bm_pending.specs.Inside.{PendingTargets, map_of, capacities_of, targets_at, capacity_left, capacity_at, IsPending}
use Rattle.bm_pending.proofs.TargetViews.{get-map_of}

pub map_of-nil : (es : List (ℕ × PendingTargets)) → es ≡ [] → map_of es ≡ empty
unfolding map_of
map_of-nil es e = ap map_of e

pub capacity-nil : (es : List (ℕ × PendingTargets)) (b : ℕ) → es ≡ [] → capacity (record { map = map_of es; capacities = capacities_of es }) b ≡ 0
capacity-nil es b e = ap (λ xs. unwrap_or (lookup (nat_eq b) (capacities_of xs)) 0) e

opened : {X : Type 0} (f : X → ℕ) (o : Option X) → unwrap_or (option_map f o) 0 ≡ option_map_or f o 0
opened f None = refl
opened f (Some x) = refl

-- the view of a block's capacity
pub capacity-seen : (m : Map by_replica ℕ) (es : List (ℕ × PendingTargets)) (b : ℕ) → capacity (record { map = m; capacities = capacities_of es }) b ≡ capacity_at es b
capacity-seen m es b = ap (λ o. unwrap_or o 0) (lookup-map_values capacity_left (nat_eq b) es) ∙ opened capacity_left (lookup (nat_eq b) es)

pub capacity-gone : (es : List (ℕ × PendingTargets)) (b : ℕ) → capacity_at es b ≡ 0 → capacity (record { map = map_of es; capacities = capacities_of es }) b ≡ 0
capacity-gone es b e = capacity-seen (map_of es) es b ∙ e

-- Targets that are filtered.
module _ (p : ℕ → ℕ → Bool) (ts : List (ℕ × ℕ)) (rise : T (is_sorted nat_cmp ts)) where
  as_map : Map by_number ℕ
  as_map = record { list = ts; sorted = rise }

  pub is_sorted-filter : T (is_sorted nat_cmp (filter (λ e. p e.0 e.1) ts))
  unfolding entries as_map
  is_sorted-filter = subst (λ xs. T (is_sorted nat_cmp xs)) (entries-keep by_number as_map p) (keep as_map p).sorted

  pub find-filter : (q : ℕ) → find nat_cmp q (filter (λ e. p e.0 e.1) ts) ≡ option_and_then (λ x. cond (p q x) (Some x) None) (find nat_cmp q ts)
  unfolding entries get as_map
  find-filter q = ap (find nat_cmp q) (sym (entries-keep by_number as_map p)) ∙ get-keep as_map p q

find-either : (s : ℕ) (t : Bool) (xs ys : List (ℕ × ℕ)) → find nat_cmp s (cond t xs ys) ≡ cond t (find nat_cmp s xs) (find nat_cmp s ys)
find-either s true xs ys = refl
find-either s false xs ys = refl

both_or : (b s : Bool) (x v : Option ℕ) → cond b (cond s x v) v ≡ cond (b && s) x v
both_or true s x v = refl
both_or false s x v = refl

-- blocks with the same targets have the same transfers
pub map-same : (es fs : List (ℕ × PendingTargets)) → ((q : ℕ) → targets_at fs q ≡ targets_at es q) → map_of fs ≡ map_of es
map-same es fs same = same_map (map_of fs) (map_of es) (λ q. get-map_of fs q ∙ ap (find nat_cmp q.storage) (same q.block) ∙ sym (get-map_of es q))

module _ (es fs : List (ℕ × PendingTargets)) (b : ℕ) (f : List (ℕ × ℕ) → List (ℕ × ℕ)) (changed : (q : ℕ) → targets_at fs q ≡ cond (nat_eq b q) (f (targets_at es q)) (targets_at es q)) where
  pub get-changed : (q : ReplicaId) → get (map_of fs) q ≡ cond (q.block == b) (find nat_cmp q.storage (f (targets_at es q.block))) (get (map_of es) q)
  get-changed q =
      get-map_of fs q ∙ ap (find nat_cmp q.storage) (changed q.block) ∙ find-either q.storage (nat_eq b q.block) (f (targets_at es q.block)) (targets_at es q.block)
      ∙ (λ j. cond (nat_eq_equiv.symm b q.block j) (find nat_cmp q.storage (f (targets_at es q.block))) (sym (get-map_of es q) j))

  pub ascending-changed : ((q : ℕ) → T (is_sorted nat_cmp (targets_at es q))) → ((xs : List (ℕ × ℕ)) → T (is_sorted nat_cmp xs) → T (is_sorted nat_cmp (f xs))) → IsPending fs
  ascending-changed rise keeps = record { ascending = λ q. subst (λ xs. T (is_sorted nat_cmp xs)) (sym (changed q)) (either (nat_eq b q) q) }
    where
      either : (t : Bool) (q : ℕ) → T (is_sorted nat_cmp (cond t (f (targets_at es q)) (targets_at es q)))
      either true q = keeps (targets_at es q) (rise q)
      either false q = rise q

module _ (es fs : List (ℕ × PendingTargets)) (b : ℕ) where
  -- one target more
  module _ (s r : ℕ) (changed : (q : ℕ) → targets_at fs q ≡ cond (nat_eq b q) (put nat_cmp s r (targets_at es q)) (targets_at es q)) where
    pub map-inserted : map_of fs ≡ insert (map_of es) (replica_at b s) r
    map-inserted =
        same_map (map_of fs) (insert (map_of es) (replica_at b s) r) (λ q.
        get-changed es fs b (put nat_cmp s r) changed q
        ∙ ap (λ o. cond (q.block == b) o (get (map_of es) q)) (find-put nat_cmp nat_cmp_total q.storage s r (targets_at es q.block) ∙ (λ j. cond (number_tie q.storage s j) (Some r) (sym (get-map_of es q) j)))
        ∙ both_or (q.block == b) (q.storage == s) (Some r) (get (map_of es) q)
        ∙ sym (get-insert (map_of es) (replica_at b s) r q ∙ ap (λ t. cond t (Some r) (get (map_of es) q)) (replica_tie q (replica_at b s))))

    pub ascending-inserted : ((q : ℕ) → T (is_sorted nat_cmp (targets_at es q))) → IsPending fs
    ascending-inserted rise = ascending-changed es fs b (put nat_cmp s r) changed rise (λ xs h. is_sorted-put nat_cmp nat_cmp_total s r xs h)

  -- one target less
  module _ (s : ℕ) (changed : (q : ℕ) → targets_at fs q ≡ cond (nat_eq b q) (filter (λ t. not (t.0 == s)) (targets_at es q)) (targets_at es q)) (rise : (q : ℕ) → T (is_sorted nat_cmp (targets_at es q))) where
    pub map-removed : map_of fs ≡ remove (map_of es) (replica_at b s)
    map-removed =
        same_map (map_of fs) (remove (map_of es) (replica_at b s)) (λ q.
        get-changed es fs b (filter (λ t. not (t.0 == s))) changed q
        ∙ ap (λ o. cond (q.block == b) o (get (map_of es) q))
        (find-filter (λ k _. not (k == s)) (targets_at es q.block) (rise q.block) q.storage ∙ sym (one_out (q.storage == s) (find nat_cmp q.storage (targets_at es q.block))) ∙ ap (cond (q.storage == s) None) (sym (get-map_of es q)))
        ∙ both_or (q.block == b) (q.storage == s) None (get (map_of es) q)
        ∙ sym (get-remove (map_of es) (replica_at b s) q ∙ ap (λ t. cond t None (get (map_of es) q)) (replica_tie q (replica_at b s))))

    pub ascending-removed : IsPending fs
    ascending-removed = ascending-changed es fs b (filter (λ t. not (t.0 == s))) changed rise (λ xs h. is_sorted-filter (λ k _. not (k == s)) xs h)

  -- no target any more
  module _ (changed : (q : ℕ) → targets_at fs q ≡ cond (nat_eq b q) [] (targets_at es q)) where
    pub map-block_removed : map_of fs ≡ keep (map_of es) (λ q _. not (q.block == b))
    map-block_removed =
        same_map (map_of fs) (keep (map_of es) (λ q _. not (q.block == b))) (λ q.
        get-changed es fs b (λ _. []) changed q ∙ sym (get-keep (map_of es) (λ q _. not (q.block == b)) q ∙ sym (one_out (q.block == b) (get (map_of es) q))))

-- what stays of the map is what stays of each block's targets
pub get-kept : (es : List (ℕ × PendingTargets)) (p : ℕ → ℕ → Bool) → ((q : ℕ) → T (is_sorted nat_cmp (targets_at es q))) → (q : ReplicaId)
    → get (keep (map_of es) (λ q t. p q.storage t)) q ≡ find nat_cmp q.storage (filter (λ e. p e.0 e.1) (targets_at es q.block))
get-kept es p rise q =
    get-keep (map_of es) (λ q t. p q.storage t) q ∙ ap (option_and_then (λ x. cond (p q.storage x) (Some x) None)) (get-map_of es q)
    ∙ sym (find-filter p (targets_at es q.block) (rise q.block) q.storage)

-- each block's targets are filtered by storage and round
module _ (es fs : List (ℕ × PendingTargets)) (p : ℕ → ℕ → Bool) (changed : (q : ℕ) → targets_at fs q ≡ filter (λ e. p e.0 e.1) (targets_at es q)) (rise : (q : ℕ) → T (is_sorted nat_cmp (targets_at es q))) where
  pub map-kept : map_of fs ≡ keep (map_of es) (λ q t. p q.storage t)
  map-kept =
      same_map (map_of fs) (keep (map_of es) (λ q t. p q.storage t)) (λ q.
      get-map_of fs q ∙ ap (find nat_cmp q.storage) (changed q.block) ∙ sym (get-kept es p rise q))

  pub ascending-kept : IsPending fs
  ascending-kept = record { ascending = λ q. subst (λ xs. T (is_sorted nat_cmp xs)) (sym (changed q)) (is_sorted-filter p (targets_at es q) (rise q)) }

-- The view of the capacity.

abbrev pub shown : List (ℕ × PendingTargets) → PendingMap
shown es = record { map = map_of es; capacities = capacities_of es }

module _ (es : List (ℕ × PendingTargets)) (p : PendingMap) (is : shown es ≡ p) where
  pub capacity-shown : (b : ℕ) → capacity p b ≡ capacity_at es b
  capacity-shown b = ap (λ v. capacity v b) (sym is) ∙ capacity-seen (map_of es) es b

  pub capacity-kept : (fs : List (ℕ × PendingTargets)) (b : ℕ) → capacity_at es b ≤ capacity_at fs b → capacity p b ≤ capacity (shown fs) b
  capacity-kept fs b less = omega (arith, capacity-shown b, capacity-seen (map_of fs) fs b, less)

  pub capacity-used : (fs : List (ℕ × PendingTargets)) (k b : ℕ) → capacity_at es b ≤ capacity_at fs b + cond (nat_eq k b) 1 0 → capacity p b ≤ capacity (shown fs) b + cond (b == k) 1 0
  capacity-used fs k b less =
      let turned : capacity_at es b ≤ capacity_at fs b + cond (b == k) 1 0 = subst (λ t. capacity_at es b ≤ capacity_at fs b + cond t 1 0) (nat_eq_equiv.symm k b) less in
      omega (arith, capacity-shown b, capacity-seen (map_of fs) fs b, turned)

  pub capacity-dropped : (fs : List (ℕ × PendingTargets)) (k b : ℕ) → capacity_at fs b ≡ cond (nat_eq k b) 0 (capacity_at es b) → capacity (shown fs) b ≡ cond (b == k) 0 (capacity p b)
  capacity-dropped fs k b same = capacity-seen (map_of fs) fs b ∙ same ∙ (λ j. cond (nat_eq_equiv.symm k b j) 0 (sym (capacity-shown b) j))

  pub capacity-same : (fs : List (ℕ × PendingTargets)) (b : ℕ) → capacity_at fs b ≡ capacity_at es b → capacity (shown fs) b ≡ capacity p b
  capacity-same fs b same = capacity-seen (map_of fs) fs b ∙ same ∙ sym (capacity-shown b)

  pub capacity-had : (b n : ℕ) → n < capacity p b → n < capacity_at es b
  capacity-had b n h = omega (arith, capacity-shown b, h)

  pub capacity-enough : (b n : ℕ) → n ≤ capacity p b → n ≤ capacity_at es b
  capacity-enough b n h = omega (arith, capacity-shown b, h)
