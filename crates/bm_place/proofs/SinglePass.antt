-- One pass over sorted storages finds the excess: those that still share a rack, then the kept.
use Rattle.std.specs.Prelude.{option_map, slice_get}
use Rattle.std.specs.Option.{option_map_or}
use Rattle.std.specs.List.Sorted.{IsSorted}
use Rattle.std.proofs.Common.{append-nil, append_assoc}
use Rattle.std.proofs.Common.{◌≡◌, ◌+◌, ◌==◌, ℕ, zero, suc, Bool, true, false, cond, not, ◌||◌, nat_lt, List, [], ◌∷◌, ◌++◌, filter, map, take, drop, count_by, Option, Some, None, refl, sym, ap, subst, ◌∙◌, arith, true≢false}
use Rattle.std.specs.declared.cmp.Ordering.{Ordering}
use Rattle.std.specs.Ordering.{is_lt, nat_cmp, ordering_then}
use Rattle.std.proofs.lemmas.Bool.{eqb-true, false≢true, or_parts, or_right}
use Rattle.std.proofs.lemmas.List.Sums.{sum_by-append}
use Rattle.std.proofs.lemmas.List.Folds.{list_any-append}
use Rattle.std.proofs.lemmas.Option.{same_Some, slice_get-map}
use Rattle.bm_base.specs.Words.{Map, by_number, Cluster, has, has_repeats, least, rack_of, share_rack, has_rack_mate, excess_cmp, excess_among}
use Rattle.bm_base.proofs.ListTests.{once_filter, same_again, kept_all_by}
use Rattle.bm_base.proofs.Slices.{has_middle, drop_next}
use Rattle.bm_place.specs.declared.holders.Holder.{Holder}
use Rattle.bm_place.specs.RackCounts.{is_on, CountsRacks}
use Rattle.bm_place.specs.Holders.{holder_at}
use Rattle.bm_place.specs.SortedExcess.{cmp_in_class, AreReady}
use Rattle.bm_place.specs.Tables.{count_at}
use Rattle.bm_place.proofs.InClass.{is_better_than, InOrder, order_without, order_behind, not_itself, sorted_order}
use Rattle.bm_place.proofs.OrderIndependence.{least_is, excess_apart}
use Rattle.bm_place.proofs.Surplus.{excess_cmp_total, mate_as}
use Rattle.bm_topo.proofs.RackChanges.{count_cons}

-- A number of a list, and the list without it.

-- a member of the list is before x, is x, or is after x
in_parts : (P : ℕ → Type 0) (xs ys : List ℕ) (x y : ℕ) → has (xs ++ x ∷ ys) y ≡ true → (has xs y ≡ true → P y) → P x → (has ys y ≡ true → P y) → P y
in_parts P xs ys x y there before here behind = by (has xs y) refl (x == y) refl (sym (list_any-append (λ z. z == y) xs (x ∷ ys)) ∙ there)
  where
    by : (a : Bool) → has xs y ≡ a → (b : Bool) → (x == y) ≡ b → (a || (b || has ys y)) ≡ true → P y
    by true e b f h = before e
    by false e true f h = subst P (eqb-true x y f) here
    by false e false f h = behind h

-- if each occurs once, the others are those before it and those after it
pub others_are : (xs ys : List ℕ) (x : ℕ) → has_repeats (xs ++ x ∷ ys) ≡ false → filter (λ s. not (s == x)) (xs ++ x ∷ ys) ≡ xs ++ ys
others_are [] ys x once =
    ap (λ b. cond (not b) (x ∷ filter (λ s. not (s == x)) ys) (filter (λ s. not (s == x)) ys)) (same_again x) ∙ kept_all_by x ys (or_parts (has ys x) (has_repeats ys) once).0
others_are (z ∷ xs) ys x once =
    let parts = or_parts (has (xs ++ x ∷ ys) z) (has_repeats (xs ++ x ∷ ys)) once in
    by (z == x) refl parts.0 (others_are xs ys x parts.1)
  where
    by : (b : Bool) → (z == x) ≡ b → has (xs ++ x ∷ ys) z ≡ false → filter (λ s. not (s == x)) (xs ++ x ∷ ys) ≡ xs ++ ys
        → cond (not b) (z ∷ filter (λ s. not (s == x)) (xs ++ x ∷ ys)) (filter (λ s. not (s == x)) (xs ++ x ∷ ys)) ≡ z ∷ (xs ++ ys)
    by true e none rest = absurd (true≢false (sym (has_middle xs ys x) ∙ subst (λ s. has (xs ++ x ∷ ys) s ≡ false) (eqb-true z x e) none))
    by false e none rest = ap (λ ss. z ∷ ss) rest

once_without : (xs ys : List ℕ) (x : ℕ) → has_repeats (xs ++ x ∷ ys) ≡ false → has_repeats (xs ++ ys) ≡ false
once_without xs ys x once = subst (λ ss. has_repeats ss ≡ false) (others_are xs ys x once) (once_filter (λ s. not (s == x)) (xs ++ x ∷ ys) once)

count_middle : (p : ℕ → Bool) (xs ys : List ℕ) (x : ℕ) → count_by p (xs ++ x ∷ ys) ≡ cond (p x) 1 0 + count_by p (xs ++ ys)
count_middle p xs ys x =
    let all = sum_by-append (λ y. cond (p y) 1 0) xs (x ∷ ys) in
    let others = sum_by-append (λ y. cond (p y) 1 0) xs ys in
    let one = count_cons p x ys in
    omega (arith, all, others, one)

module _ (C : Cluster) where
  -- none of these has another remaining one on its rack
  abbrev pub StandAlone : List ℕ → List ℕ → Type 0
  StandAlone left xs = (y : ℕ) → has xs y ≡ true → has_rack_mate C left y ≡ false

  fewer_mates : (xs ys : List ℕ) (x y : ℕ) → has_rack_mate C (xs ++ x ∷ ys) y ≡ false → has_rack_mate C (xs ++ ys) y ≡ false
  unfolding has_rack_mate
  fewer_mates xs ys x y none = less (share_rack C y x) _ _ (count_middle (share_rack C y) xs ys x) none
    where
      less : (b : Bool) (n m : ℕ) → n ≡ cond b 1 0 + m → nat_lt 1 n ≡ false → nat_lt 1 m ≡ false
      less true n m e f = grind (arith, e, f)
      less false n m e f = grind (arith, e, f)

  -- one with another on its rack comes first, if none of its class comes before it
  after_mate : (a b : Bool) (o : Ordering) → b ≡ true → (a ≡ true → is_lt o ≡ false) → is_lt (ordering_then (nat_cmp (cond a 0 1) (cond b 0 1)) o) ≡ false
  after_mate true true o e f = f refl
  after_mate false true o e f = refl
  after_mate a false o e f = cc

  after_alone : (a b : Bool) (o : Ordering) → a ≡ false → is_lt o ≡ false → is_lt (ordering_then (nat_cmp (cond a 0 1) (cond b 0 1)) o) ≡ false
  after_alone false true o e f = refl
  after_alone false false o e f = f
  after_alone true b o e f = cc

  behind_mate : (left : List ℕ) (x y : ℕ) → has_rack_mate C left x ≡ true → (has_rack_mate C left y ≡ true → is_better_than C y x ≡ false) → is_lt (excess_cmp C left y x) ≡ false
  unfolding excess_cmp
  behind_mate left x y mate first = after_mate (has_rack_mate C left y) (has_rack_mate C left x) (cmp_in_class (holder_at C y) (holder_at C x)) mate first

  behind_alone : (left : List ℕ) (x y : ℕ) → has_rack_mate C left y ≡ false → is_better_than C y x ≡ false → is_lt (excess_cmp C left y x) ≡ false
  unfolding excess_cmp
  behind_alone left x y alone first = after_alone (has_rack_mate C left y) (has_rack_mate C left x) (cmp_in_class (holder_at C y) (holder_at C x)) alone first

  -- the next one with another on its rack is the first in excess, if those before it have none
  next_first : (xs ys : List ℕ) (x : ℕ) → InOrder C (xs ++ x ∷ ys) → StandAlone (xs ++ x ∷ ys) xs → has_rack_mate C (xs ++ x ∷ ys) x ≡ true
      → least (excess_cmp C (xs ++ x ∷ ys)) (xs ++ x ∷ ys) ≡ Some x
  next_first xs ys x ordered alone mate =
      let left = xs ++ x ∷ ys in
      least_is (excess_cmp C left) (excess_cmp_total C left) (excess_apart C left) left x (has_middle xs ys x)
      (λ y there. in_parts (λ z. is_lt (excess_cmp C left z x) ≡ false) xs ys x y there
      (λ before. behind_mate left x y mate (λ has. absurd (true≢false (sym has ∙ alone y before))))
      (behind_mate left x x mate (λ _. not_itself C x))
      (λ behind. behind_mate left x y mate (λ _. order_behind C xs ys x ordered y behind)))

  -- if none has another on its rack, they are in excess in their order
  pub all_alone : (k : ℕ) (left : List ℕ) → InOrder C left → has_repeats left ≡ false → StandAlone left left → excess_among C k left ≡ take k left
  all_alone zero left ordered once alone = refl
  all_alone (suc k) [] ordered once alone = refl
  all_alone (suc k) (x ∷ xs) ordered once alone =
      let left = x ∷ xs in
      let first : least (excess_cmp C left) left ≡ Some x =
      least_is (excess_cmp C left) (excess_cmp_total C left) (excess_apart C left) left x (has_middle [] xs x)
      (λ y there. in_parts (λ z. is_lt (excess_cmp C left z x) ≡ false) [] xs x y there
      (λ none. absurd (false≢true none))
      (behind_alone left x x (alone x (has_middle [] xs x)) (not_itself C x))
      (λ behind. behind_alone left x y (alone y (or_right (x == y) (has xs y) behind)) (ordered.0 y behind))) in
      ap (λ m. option_map_or (λ z. z ∷ excess_among C k (filter (λ s. not (s == z)) left)) m []) first
      ∙ ap (λ ss. x ∷ excess_among C k ss) (others_are [] xs x once)
      ∙ ap (λ ss. x ∷ ss) (all_alone k xs ordered.1 (once_without [] xs x once) (λ y there. fewer_mates [] xs x y (alone y (or_right (x == y) (has xs y) there))))

-- The invariant of the pass: some storages remain to be passed, and `more` remain to be chosen.
pub record Passes (C : Cluster) (counts : Map by_number ℕ) (more : ℕ) (chosen kept rest whole : List ℕ) : Type 0 where
  pub ordered : InOrder C (kept ++ rest)
  pub once : has_repeats (kept ++ rest) ≡ false
  pub alone : StandAlone C (kept ++ rest) kept
  pub counted : CountsRacks C (kept ++ rest) counts
  pub all : chosen ++ excess_among C more (kept ++ rest) ≡ whole

-- the invariant before the first storage
pub none_passed : (C : Cluster) (ss : List ℕ) (holders : List Holder) (counts : Map by_number ℕ) (more : ℕ) (chosen : List ℕ) → AreReady C ss holders counts
    → Passes C counts more chosen [] ss (chosen ++ excess_among C more ss)
none_passed C ss holders counts more chosen ready =
    record {
      ordered = sorted_order C ss (subst (IsSorted cmp_in_class) ready.looked_up ready.in_order);
      once = ready.once;
      alone = λ y none. absurd (false≢true none);
      counted = ready.counted;
      all = refl;
    }

-- whether a rack counts more than one
abbrev pub counts_more : Map by_number ℕ → Option ℕ → Bool
counts_more counts rack = option_map_or (λ r. nat_lt 1 (count_at counts r)) rack false

-- the next one is chosen if its rack counts another, and the rack then counts one fewer
pub one_chosen : (C : Cluster) (counts lowered : Map by_number ℕ) (more less x : ℕ) (chosen kept rest whole : List ℕ) → Passes C counts more chosen kept (x ∷ rest) whole
    → counts_more counts (rack_of C x) ≡ true → ((r : ℕ) → count_at lowered r + cond (is_on C r x) 1 0 ≡ count_at counts r) → more ≡ less + 1
    → Passes C lowered less (chosen ++ x ∷ []) kept rest whole
one_chosen C counts lowered more less x chosen kept rest whole p mate lower fewer =
    let left = kept ++ x ∷ rest in
    let count : more ≡ suc less = omega (arith, fewer) in
    let first = next_first C kept rest x p.ordered p.alone (sym (mate_as C left (count_at counts) p.counted x) ∙ mate) in
    record {
      ordered = order_without C kept rest x p.ordered;
      once = once_without kept rest x p.once;
      alone = λ y there. fewer_mates C kept rest x y (p.alone y there);
      counted = λ r. let all = count_middle (is_on C r) kept rest x in omega (arith, all, lower r, p.counted r);
      all =
          append_assoc chosen (x ∷ []) _
          ∙ ap (λ ss. chosen ++ x ∷ excess_among C less ss) (sym (others_are kept rest x p.once))
          ∙ ap (λ m. chosen ++ option_map_or (λ y. y ∷ excess_among C less (filter (λ s. not (s == y)) left)) m []) (sym first)
          ∙ ap (λ k. chosen ++ excess_among C k left) (sym count)
          ∙ p.all;
    }

-- else the next one is kept
pub one_kept : (C : Cluster) (counts after : Map by_number ℕ) (more x : ℕ) (chosen kept rest whole : List ℕ) → Passes C counts more chosen kept (x ∷ rest) whole
    → counts_more counts (rack_of C x) ≡ false → ((r : ℕ) → count_at after r ≡ count_at counts r) → Passes C after more chosen (kept ++ x ∷ []) rest whole
one_kept C counts after more x chosen kept rest whole p none as_before =
    let left = kept ++ x ∷ rest in
    let same : left ≡ (kept ++ x ∷ []) ++ rest = sym (append_assoc kept (x ∷ []) rest) in
    let alone : StandAlone C left (kept ++ x ∷ []) =
    λ y there. in_parts (λ s. has_rack_mate C left s ≡ false) kept [] x y there (p.alone y) (sym (mate_as C left (count_at counts) p.counted x) ∙ none) (λ none. absurd (false≢true none)) in
    record {
      ordered = subst (InOrder C) same p.ordered;
      once = subst (λ ss. has_repeats ss ≡ false) same p.once;
      alone = subst (λ ss. StandAlone C ss (kept ++ x ∷ [])) same alone;
      counted = λ r. as_before r ∙ subst (λ ss. CountsRacks C ss counts) same p.counted r;
      all = ap (λ ss. chosen ++ excess_among C more ss) (sym same) ∙ p.all;
    }

-- a pass with equal lists and numbers is the pass
pub same_passes : (C : Cluster) (counts : Map by_number ℕ) (more n : ℕ) (chosen xs kept ys rest whole : List ℕ) → n ≡ more → xs ≡ chosen → ys ≡ kept
    → Passes C counts more chosen kept rest whole → Passes C counts n xs ys rest whole
same_passes C counts more n chosen xs kept ys rest whole e f g p =
    subst (λ k. Passes C counts k xs ys rest whole) (sym e)
    (subst (λ ss. Passes C counts more ss ys rest whole) (sym f) (subst (λ ss. Passes C counts more chosen ss rest whole) (sym g) p))

-- at the end of the pass, the first kept ones are those that remain to be chosen
pub all_passed : (C : Cluster) (counts : Map by_number ℕ) (more : ℕ) (chosen kept rest whole : List ℕ) → Passes C counts more chosen kept rest whole → rest ≡ [] → chosen ++ take more kept ≡ whole
all_passed C counts more chosen kept rest whole p none =
    let same : kept ++ rest ≡ kept = ap (λ ss. kept ++ ss) none ∙ append-nil kept in
    ap (λ ss. chosen ++ ss)
    (sym
    (all_alone C more kept (subst (InOrder C) same p.ordered) (subst (λ ss. has_repeats ss ≡ false) same p.once) (subst (λ ss. StandAlone C ss kept) same p.alone)))
    ∙ ap (λ ss. chosen ++ excess_among C more ss) (sym same) ∙ p.all

-- the next of the looked up storages
pub next_looked_up : (C : Cluster) (ss : List ℕ) (i : ℕ) (h : Holder) → slice_get (map (holder_at C) ss) i ≡ Some h → (h ≡ holder_at C h.storage) × (drop i ss ≡ h.storage ∷ drop (i + 1) ss)
next_looked_up C ss i h at = by (slice_get ss i) refl (sym (slice_get-map (holder_at C) ss i) ∙ at)
  where
    by : (o : Option ℕ) → slice_get ss i ≡ o → option_map (holder_at C) o ≡ Some h → (h ≡ holder_at C h.storage) × (drop i ss ≡ h.storage ∷ drop (i + 1) ss)
    by None e f = cc
    by (Some s) e f =
        let same : holder_at C s ≡ h = same_Some (holder_at C s) h f in
        let storage : s ≡ h.storage = ap (λ (g : Holder). g.storage) same in
        (sym same ∙ ap (holder_at C) storage, drop_next ss i s e ∙ ap (λ t. t ∷ drop (i + 1) ss) storage)
