-- A change of one block's targets keeps the targets of all other blocks, and does not reduce their
-- capacity.
use Rattle.std.specs.Prelude.{◌≡◌, ◌≢◌, ◌≤◌, ◌+◌, ◌||◌, ◌++◌, ℕ, Bool, true, false, cond, List, [], ◌∷◌, length, filter, map, not, ◌==◌, nat_eq, Option, None, Some, option_map}
use Rattle.std.specs.Option.{option_map_or}
use Rattle.std.specs.Ordering.{nat_cmp}
use Rattle.std.specs.FinMap.{put}
use Rattle.std.specs.FinMap.Entries.{by_order}
use Rattle.std.specs.declared.cmp.Ordering.TheVariants.{Less, Equal, Greater}
use Rattle.std.specs.Map.{lookup, keys_of}
use Rattle.std.specs.List.{list_any, IsDistinct}
use Rattle.std.specs.Cmp.{nat_eq_equiv}
use Rattle.std.proofs.lemmas.Map.Entries.{lookup-filter-values, option_filter}
use Rattle.std.proofs.Common.{refl, sym, ap, subst, ◌∙◌, arith, eqb-true, true≢false}
use Rattle.std.proofs.lemmas.List.{nil_from_length}
use Rattle.std.proofs.lemmas.Map.Made.{lookup-map_values, is_some-lookup}
use Rattle.bm_base.proofs.Options.{not_there}
use Rattle.bm_base.proofs.Slices.{filter_shorter}
use Rattle.bm_pending.specs.Inside.{PendingTargets, targets_at, capacity_left, capacity_at}

abbrev pub items_or : Option PendingTargets → List (ℕ × ℕ)
items_or o = option_map_or (λ (v : PendingTargets). v.items) o []

abbrev pub capacity_or : Option PendingTargets → ℕ
capacity_or o = option_map_or capacity_left o 0

module _ (es : List (ℕ × PendingTargets)) (b : ℕ) where
  -- a block that was not there comes with no target
  pub fresh-targets : (v : PendingTargets) → lookup (nat_eq b) es ≡ None → v.items ≡ [] → (q : ℕ) → items_or (cond (nat_eq b q) (Some v) (lookup (nat_eq q) es)) ≡ targets_at es q
  fresh-targets v none no_items q = by (nat_eq b q) refl
    where
      by : (t : Bool) → nat_eq b q ≡ t → items_or (cond t (Some v) (lookup (nat_eq q) es)) ≡ targets_at es q
      by true e = no_items ∙ sym (ap items_or none) ∙ ap (targets_at es) (eqb-true b q e)
      by false e = refl

  pub fresh-capacities : (v : PendingTargets) → lookup (nat_eq b) es ≡ None → (q : ℕ) → capacity_at es q ≤ capacity_or (cond (nat_eq b q) (Some v) (lookup (nat_eq q) es))
  fresh-capacities v none q = by (nat_eq b q) refl
    where
      by : (t : Bool) → nat_eq b q ≡ t → capacity_at es q ≤ capacity_or (cond t (Some v) (lookup (nat_eq q) es))
      by true e = let none_left : capacity_at es q ≡ 0 = ap (capacity_at es) (sym (eqb-true b q e)) ∙ ap capacity_or none in omega (arith, none_left)
      by false e = omega arith

  -- a known block has other targets, within its capacity
  pub freed-capacities : (v w : PendingTargets) → Some v ≡ lookup (nat_eq b) es → capacity_left v ≤ capacity_left w → (q : ℕ) → capacity_at es q ≤ capacity_or (cond (nat_eq b q) (Some w) (lookup (nat_eq q) es))
  freed-capacities v w here less q = by (nat_eq b q) refl
    where
      by : (t : Bool) → nat_eq b q ≡ t → capacity_at es q ≤ capacity_or (cond t (Some w) (lookup (nat_eq q) es))
      by true e = let same : capacity_at es q ≡ capacity_left v = ap (capacity_at es) (sym (eqb-true b q e)) ∙ ap capacity_or (sym here) in omega (arith, same, less)
      by false e = omega arith

  -- a block that was there has other targets
  pub written-capacities : (v w : PendingTargets) (n : ℕ) → Some v ≡ lookup (nat_eq b) es → capacity_left v ≤ capacity_left w + n → (q : ℕ) → capacity_at es q ≤ capacity_or (cond (nat_eq b q) (Some w) (lookup (nat_eq q) es)) + cond (nat_eq b q) n 0
  written-capacities v w n here less q = by (nat_eq b q) refl
    where
      by : (t : Bool) → nat_eq b q ≡ t → capacity_at es q ≤ capacity_or (cond t (Some w) (lookup (nat_eq q) es)) + cond t n 0
      by true e = let same : capacity_at es q ≡ capacity_left v = ap (capacity_at es) (sym (eqb-true b q e)) ∙ ap capacity_or (sym here) in omega (arith, same, less)
      by false e = omega arith

  -- a block that is not there stays so
  pub absent-targets : (f : List (ℕ × ℕ) → List (ℕ × ℕ)) → f [] ≡ [] → lookup (nat_eq b) es ≡ None → (q : ℕ) → targets_at es q ≡ cond (nat_eq b q) (f (targets_at es q)) (targets_at es q)
  absent-targets f nothing none q = by (nat_eq b q) refl
    where
      by : (t : Bool) → nat_eq b q ≡ t → targets_at es q ≡ cond t (f (targets_at es q)) (targets_at es q)
      by true e = let empty : targets_at es q ≡ [] = ap (targets_at es) (sym (eqb-true b q e)) ∙ ap items_or none in empty ∙ sym (ap f empty ∙ nothing)
      by false e = refl

-- removing targets keeps at least the spare capacity
pub filtered-capacity : (v w : PendingTargets) (p : ℕ × ℕ → Bool) → w.items ≡ filter p v.items → w.capacity ≡ v.capacity → capacity_left v ≤ capacity_left w
filtered-capacity v w p items capacity = omega (arith, subst (λ xs. length xs ≤ length v.items) (sym items) (filter_shorter p v.items), capacity)

length-put : (k v : ℕ) (es : List (ℕ × ℕ)) → length (put nat_cmp k v es) ≤ length es + 1
length-put k v [] = omega arith
length-put k v (e ∷ es) = elim (nat_cmp k e.0) as (λ r. length (by_order r ((k, v) ∷ e ∷ es) ((e.0, v) ∷ es) (e ∷ put nat_cmp k v es)) ≤ length (e ∷ es) + 1) [
  | Less ↦ omega arith
  | Equal ↦ omega arith
  | Greater ↦ omega (arith, length-put k v es)
]

-- adding a target takes capacity for one at most
pub put-capacity : (v w : PendingTargets) (storage round : ℕ) → w.items ≡ put nat_cmp storage round v.items → w.capacity ≡ v.capacity → capacity_left v ≤ capacity_left w + 1
put-capacity v w storage round items capacity = let more : length w.items ≤ length v.items + 1 = subst (λ xs. length xs ≤ length v.items + 1) (sym items) (length-put storage round v.items) in omega (arith, more, capacity)

-- Each block's targets are filtered.
module _ (es fs : List (ℕ × PendingTargets)) (p : ℕ × ℕ → Bool) (is : fs ≡ map (λ e. (e.0, record e.1 { items = filter p e.1.items })) es) where
  abbrev filtered : PendingTargets → PendingTargets
  filtered v = record v { items = filter p v.items }

  looked : (q : ℕ) → lookup (nat_eq q) fs ≡ option_map filtered (lookup (nat_eq q) es)
  looked q = ap (lookup (nat_eq q)) is ∙ lookup-map_values filtered (nat_eq q) es

  pub filtered-targets : (q : ℕ) → targets_at fs q ≡ filter p (targets_at es q)
  filtered-targets q = ap items_or (looked q) ∙ by (lookup (nat_eq q) es)
    where
      by : (o : Option PendingTargets) → items_or (option_map filtered o) ≡ filter p (items_or o)
      by None = refl
      by (Some v) = refl

  pub filtered-capacities : (q : ℕ) → capacity_at es q ≤ capacity_at fs q
  filtered-capacities q = subst (λ o. capacity_at es q ≤ capacity_or o) (sym (looked q)) (by (lookup (nat_eq q) es))
    where
      by : (o : Option PendingTargets) → capacity_or o ≤ capacity_or (option_map filtered o)
      by None = omega arith
      by (Some v) = filtered-capacity v (filtered v) p refl refl

-- Dropping the blocks with no target keeps all targets.
module _ (es fs : List (ℕ × PendingTargets)) (unique : IsDistinct nat_eq (keys_of es)) (is : fs ≡ filter (λ e. not (length e.1.items == 0)) es) where
  abbrev left : Option PendingTargets → Option PendingTargets
  left o = option_filter (λ (v : PendingTargets). not (length v.items == 0)) o

  looked_left : (q : ℕ) → lookup (nat_eq q) fs ≡ left (lookup (nat_eq q) es)
  looked_left q = ap (lookup (nat_eq q)) is ∙ lookup-filter-values nat_eq_equiv (λ (v : PendingTargets). not (length v.items == 0)) q es unique

  pub shed-targets : (q : ℕ) → targets_at fs q ≡ targets_at es q
  shed-targets q = ap items_or (looked_left q) ∙ chosen (lookup (nat_eq q) es)
    where
      chosen : (o : Option PendingTargets) → items_or (left o) ≡ items_or o
      chosen None = refl
      chosen (Some v) = by (length v.items == 0) refl
        where
          by : (t : Bool) → (length v.items == 0) ≡ t → items_or (cond (not t) (Some v) None) ≡ v.items
          by true e = sym (nil_from_length v.items (eqb-true (length v.items) 0 e))
          by false e = refl

  -- a block with a target keeps its capacity
  pub shed-kept : (q : ℕ) → targets_at es q ≢ [] → capacity_at fs q ≡ capacity_at es q
  shed-kept q some = ap capacity_or (looked_left q) ∙ chosen (lookup (nat_eq q) es) some
    where
      chosen : (o : Option PendingTargets) → items_or o ≢ [] → capacity_or (left o) ≡ capacity_or o
      chosen None h = refl
      chosen (Some v) h = by (length v.items == 0) refl
        where
          by : (t : Bool) → (length v.items == 0) ≡ t → capacity_or (cond (not t) (Some v) None) ≡ capacity_left v
          by true e = absurd (h (nil_from_length v.items (eqb-true (length v.items) 0 e)))
          by false e = refl

  -- others lose theirs
  pub shed-freed : (q : ℕ) → targets_at es q ≡ [] → capacity_at fs q ≡ 0
  shed-freed q none = ap capacity_or (looked_left q) ∙ chosen (lookup (nat_eq q) es) none
    where
      chosen : (o : Option PendingTargets) → items_or o ≡ [] → capacity_or (left o) ≡ 0
      chosen None h = refl
      chosen (Some v) h = ap (λ n. capacity_or (cond (not (n == 0)) (Some v) None)) (ap length h)

-- A block that is not among those with a target that passes has no such target.
module _ (es : List (ℕ × PendingTargets)) (unique : IsDistinct nat_eq (keys_of es)) where
  no_such : (ks : List ℕ) (fs : List (ℕ × PendingTargets)) → ks ≡ keys_of fs → (b : ℕ) → list_any (nat_eq b) ks ≡ false → lookup (nat_eq b) fs ≡ None
  no_such ks fs is b none = not_there (lookup (nat_eq b) fs) (is_some-lookup (nat_eq b) fs ∙ ap (list_any (nat_eq b)) (sym is) ∙ none)

  module _ (p : ℕ × ℕ → Bool) where
    none_pass : (ts : List (ℕ × ℕ)) → list_any p ts ≡ false → filter p ts ≡ []
    none_pass [] h = refl
    none_pass (t ∷ ts) h =
        (elim (p t) as (λ b. (b || list_any p ts) ≡ false → cond b (t ∷ filter p ts) (filter p ts) ≡ []) [ true ↦ λ e. absurd (true≢false e) | false ↦ λ e. none_pass ts e ]) h

    pub none-passing : (ks : List ℕ) → ks ≡ keys_of (filter (λ e. list_any p e.1.items) es) → (b : ℕ) → list_any (nat_eq b) ks ≡ false → filter p (targets_at es b) ≡ []
    none-passing ks is b none =
        passing (lookup (nat_eq b) es) (sym (lookup-filter-values nat_eq_equiv (λ (v : PendingTargets). list_any p v.items) b es unique) ∙ no_such ks (filter (λ e. list_any p e.1.items) es) is b none)
      where
        passing : (o : Option PendingTargets) → option_filter (λ (v : PendingTargets). list_any p v.items) o ≡ None → filter p (items_or o) ≡ []
        passing None e = refl
        passing (Some v) e = by (list_any p v.items) refl e
          where
            by : (t : Bool) → list_any p v.items ≡ t → cond t (Some v) None ≡ None → filter p v.items ≡ []
            by true g e = cc
            by false g e = none_pass v.items g

-- the blocks that passed, and one more
pub keys-passed_more : {A : Type 0} (v : A → ℕ × PendingTargets) (p : ℕ × PendingTargets → Bool) (ys : List A) (y : A) (t : Bool) → p (v y) ≡ t
    → keys_of (filter p (map v (ys ++ y ∷ []))) ≡ keys_of (filter p (map v ys)) ++ cond t ((v y).0 ∷ []) []
keys-passed_more v p [] y true e = ap (λ b. keys_of (cond b (v y ∷ []) [])) e
keys-passed_more v p [] y false e = ap (λ b. keys_of (cond b (v y ∷ []) [])) e
keys-passed_more v p (x ∷ ys) y t e =
    elim (p (v x)) as (λ b. keys_of (cond b (v x ∷ filter p (map v (ys ++ y ∷ []))) (filter p (map v (ys ++ y ∷ [])))) ≡ keys_of (cond b (v x ∷ filter p (map v ys)) (filter p (map v ys))) ++ cond t ((v y).0 ∷ []) []) [
      | true ↦ ap (λ ks. (v x).0 ∷ ks) (keys-passed_more v p ys y t e)
      | false ↦ keys-passed_more v p ys y t e
    ]
