-- A scan from a target ends at one that neither the start nor any passing target is better than.
use Rattle.std.specs.Prelude.{◌⊎◌}
use Rattle.std.specs.List.{cons_option}
use Rattle.std.proofs.Common.{◌≡◌, Bool, true, false, cond, ◌&&◌, List, [], ◌∷◌, Option, Some, None, refl, inl, inr, sym, ap, subst, ◌∙◌}
use Rattle.std.proofs.lemmas.Option.{same_Some}
use Rattle.bm_place.specs.declared.scheduled_bytes.TargetRow.{TargetRow}
use Rattle.bm_place.specs.Scan.{scan}
use Rattle.bm_place.specs.BestTargets.{IsMember, are_of_one_node, better_of, cmp_of_one_node, is_better_than}
use Rattle.bm_place.proofs.SameNodeTargets.{ranks, not_before_itself}

module _ (p : TargetRow → Bool) where
  -- the result of a scan of xs that starts at b
  pub record IsFound (b : TargetRow) (xs : List TargetRow) (r : TargetRow) : Type 0 where
    pub among : (b ≡ r) ⊎ IsMember xs r
    pub passes : p b ≡ true → p r ≡ true
    pub start : is_better_than b r ≡ false
    pub all : (x : TargetRow) → IsMember xs x → p x ≡ true → is_better_than x r ≡ false

  taken : (b x r : TargetRow) (xs : List TargetRow) → p x ≡ true → is_better_than x b ≡ true → IsFound x xs r → IsFound b (x ∷ xs) r
  taken b x r xs passes before h = record {
    among = inr h.among;
    passes = λ _. h.passes passes;
    start = ranks.chain b x r (ranks.one_way x b before) h.start;
    all = λ y there. all y there;
  }
    where
      all : (y : TargetRow) → IsMember (x ∷ xs) y → p y ≡ true → is_better_than y r ≡ false
      all y (inl e) t = subst (λ y. is_better_than y r ≡ false) e h.start
      all y (inr there) t = h.all y there t

  passed_by : (b x r : TargetRow) (xs : List TargetRow) → (p x ≡ true → is_better_than x b ≡ false) → IsFound b xs r → IsFound b (x ∷ xs) r
  passed_by b x r xs not_before h = record {
    among = elim h.among [ inl e ↦ inl e | inr there ↦ inr (inr there) ];
    passes = h.passes;
    start = h.start;
    all = λ y there. all y there;
  }
    where
      all : (y : TargetRow) → IsMember (x ∷ xs) y → p y ≡ true → is_better_than y r ≡ false
      all y (inl e) t = subst (λ y. is_better_than y r ≡ false) e (ranks.chain x b r (not_before (ap p e ∙ t)) h.start)
      all y (inr there) t = h.all y there t

  pub found : (b r : TargetRow) (xs : List TargetRow) → scan cmp_of_one_node p (Some b) xs ≡ Some r → IsFound b xs r
  found b r [] is =
      let same = same_Some b r is in
      record { among = inl same; passes = λ t. ap p (sym same) ∙ t; start = subst (λ r. is_better_than b r ≡ false) same (not_before_itself b); all = λ x none. absurd none }
  found b r (x ∷ xs) is = by (p x) (is_better_than x b) refl refl is (λ h. found x r xs h) (λ h. found b r xs h)
    where
      by : (t u : Bool) → p x ≡ t → is_better_than x b ≡ u → scan cmp_of_one_node p (cond (t && u) (Some x) (Some b)) xs ≡ Some r → (scan cmp_of_one_node p (Some x) xs ≡ Some r → IsFound x xs r)
          → (scan cmp_of_one_node p (Some b) xs ≡ Some r → IsFound b xs r) → IsFound b (x ∷ xs) r
      by true true e f is with_x with_b = taken b x r xs e f (with_x is)
      by true false e f is with_x with_b = passed_by b x r xs (λ _. f) (with_b is)
      by false u e f is with_x with_b = passed_by b x r xs (λ t. cc) (with_b is)

-- with one more target, if there is one
pub scan-more : (t b : TargetRow) (o : Option TargetRow) (xs : List TargetRow) → scan cmp_of_one_node (λ c. are_of_one_node c t) (Some b) (cons_option o xs) ≡ scan cmp_of_one_node (λ c. are_of_one_node c t) (Some (better_of b t o)) xs
scan-more t b None xs = refl
scan-more t b (Some c) xs = ap (λ o. scan cmp_of_one_node (λ c. are_of_one_node c t) o xs) (by (are_of_one_node c t && is_better_than c b))
  where
    by : (u : Bool) → cond u (Some c) (Some b) ≡ Some (cond u c b)
    by true = refl
    by false = refl
