-- Inserting targets one by one into a table by node leaves a best target of each node in it.
use Rattle.std.specs.Prelude.{◌⊎◌}
use Rattle.std.specs.Ordering.{eq_by_cmp, nat_cmp}
use Rattle.std.specs.Option.{option_map_or}
use Rattle.std.proofs.Common.{◌≡◌, ℕ, Bool, true, false, cond, List, [], ◌∷◌, Option, Some, None, refl, inl, inr, sym, ap, subst, ◌∙◌}
use Rattle.std.proofs.lemmas.Option.{same_Some, none-some}
use Rattle.bm_base.specs.Maps.Map.{Map, by_number, empty, get, insert}
use Rattle.bm_base.proofs.MapEntries.{same_key, get_inserted, get_here, get_elsewhere}
use Rattle.bm_base.proofs.MapLaws.{get-empty}
use Rattle.bm_place.specs.declared.scheduled_bytes.TargetRow.{TargetRow}
use Rattle.bm_place.specs.BestTargets.{IsMember, is_better_than, first_at, with_first, with_firsts}
use Rattle.bm_place.proofs.SameNodeTargets.{ranks, not_before_itself}

-- the best targets of the nodes of some targets
pub record AreFirst (M : TargetRow → Type 0) (firsts : Map by_number TargetRow) : Type 0 where
  -- each is one of these targets, and of its node
  pub known : (n : ℕ) (c : TargetRow) → get firsts n ≡ Some c → M c × (c.node ≡ Some n)
  -- for each target with a node there is one that is not worse
  pub first : (t : TargetRow) (n : ℕ) → M t → t.node ≡ Some n → (c : TargetRow) × (get firsts n ≡ Some c) × (is_better_than t c ≡ false)

abbrev IsOneMore : (TargetRow → Type 0) → TargetRow → TargetRow → Type 0
IsOneMore M t x = (t ≡ x) ⊎ M x

module _ (M : TargetRow → Type 0) (firsts : Map by_number TargetRow) (t : TargetRow) (h : AreFirst M firsts) where
  -- it is inserted
  inserted : (n : ℕ) → t.node ≡ Some n → ((c : TargetRow) → get firsts n ≡ Some c → is_better_than t c ≡ true) → AreFirst (IsOneMore M t) (insert firsts n t)
  inserted n on before = record { known = λ m c is. known m c is; first = λ x m of at. first_of x m of at }
    where
      known : (m : ℕ) (c : TargetRow) → get (insert firsts n t) m ≡ Some c → IsOneMore M t c × (c.node ≡ Some m)
      known m c is =
          elim (get_inserted firsts n t m c is) [
            | inl new ↦ (inl new.1, ap (λ (c : TargetRow). c.node) (sym new.1) ∙ on ∙ ap Some (sym new.0))
            | inr old ↦ let k = h.known m c old.1 in (inr k.0, k.1)
          ]

      first_old : (x : TargetRow) (m : ℕ) (b : Bool) → eq_by_cmp nat_cmp m n ≡ b → (c : TargetRow) → get firsts m ≡ Some c → is_better_than x c ≡ false → (c : TargetRow) × (get (insert firsts n t) m ≡ Some c) × (is_better_than x c ≡ false)
      first_old x m true same c is less =
          let key = same_key by_number m n same in
          (t, ap (get (insert firsts n t)) key ∙ get_here firsts n t, ranks.chain x c t less (ranks.one_way t c (before c (ap (get firsts) (sym key) ∙ is))))
      first_old x m false other c is less = (c, get_elsewhere firsts n t m other ∙ is, less)

      first_of : (x : TargetRow) (m : ℕ) → IsOneMore M t x → x.node ≡ Some m → (c : TargetRow) × (get (insert firsts n t) m ≡ Some c) × (is_better_than x c ≡ false)
      first_of x m (inl e) at =
          let key = same_Some m n (sym at ∙ ap (λ (x : TargetRow). x.node) (sym e) ∙ on) in
          (t, ap (get (insert firsts n t)) key ∙ get_here firsts n t, subst (λ x. is_better_than x t ≡ false) e (not_before_itself t))
      first_of x m (inr of) at = let old = h.first x m of at in first_old x m (eq_by_cmp nat_cmp m n) refl old.0 old.1 old.2

  -- one that is not worse is in the table already
  left_out : ((n : ℕ) → t.node ≡ Some n → (c : TargetRow) × (get firsts n ≡ Some c) × (is_better_than t c ≡ false)) → AreFirst (IsOneMore M t) firsts
  left_out there = record { known = λ m c is. known m c is; first = λ x m of at. first_of x m of at }
    where
      known : (m : ℕ) (c : TargetRow) → get firsts m ≡ Some c → IsOneMore M t c × (c.node ≡ Some m)
      known m c is = let k = h.known m c is in (inr k.0, k.1)

      first_of : (x : TargetRow) (m : ℕ) → IsOneMore M t x → x.node ≡ Some m → (c : TargetRow) × (get firsts m ≡ Some c) × (is_better_than x c ≡ false)
      first_of x m (inl e) at =
          let c = there m (ap (λ (x : TargetRow). x.node) e ∙ at) in
          (c.0, c.1, subst (λ x. is_better_than x c.0 ≡ false) e c.2)
      first_of x m (inr of) at = h.first x m of at

  one_entered : AreFirst (IsOneMore M t) (with_first firsts t)
  one_entered = by t.node refl
    where
      found : (n : ℕ) → t.node ≡ Some n → (o : Option TargetRow) → get firsts n ≡ o → AreFirst (IsOneMore M t) (first_at firsts n t o)
      found n on None is = inserted n on (λ c e. absurd (none-some c (sym is ∙ e)))
      found n on (Some c) is = tested (is_better_than t c) refl
        where
          tested : (b : Bool) → is_better_than t c ≡ b → AreFirst (IsOneMore M t) (cond b (insert firsts n t) firsts)
          tested true e = inserted n on (λ d is_d. subst (λ d. is_better_than t d ≡ true) (same_Some c d (sym is ∙ is_d)) e)
          tested false e = left_out (λ m at. (c, ap (get firsts) (same_Some m n (sym at ∙ on)) ∙ is, e))

      by : (o : Option ℕ) → t.node ≡ o → AreFirst (IsOneMore M t) (option_map_or (λ n. first_at firsts n t (get firsts n)) o firsts)
      by None none = left_out (λ n on. absurd (none-some n (sym none ∙ on)))
      by (Some n) on = found n on (get firsts n) refl

regrouped : (M : TargetRow → Type 0) (t : TargetRow) (ts : List TargetRow) (firsts : Map by_number TargetRow) → AreFirst (λ x. IsOneMore M t x ⊎ IsMember ts x) firsts → AreFirst (λ x. M x ⊎ IsMember (t ∷ ts) x) firsts
regrouped M t ts firsts h = record { known = λ n c is. let k = h.known n c is in (to c k.0, k.1); first = λ x n m on. h.first x n (from x m) on }
  where
    to : (x : TargetRow) → IsOneMore M t x ⊎ IsMember ts x → M x ⊎ IsMember (t ∷ ts) x
    to x (inl (inl e)) = inr (inl e)
    to x (inl (inr m)) = inl m
    to x (inr there) = inr (inr there)

    from : (x : TargetRow) → M x ⊎ IsMember (t ∷ ts) x → IsOneMore M t x ⊎ IsMember ts x
    from x (inl m) = inl (inr m)
    from x (inr (inl e)) = inl (inl e)
    from x (inr (inr there)) = inr there

all_entered : (M : TargetRow → Type 0) (ts : List TargetRow) (firsts : Map by_number TargetRow) → AreFirst M firsts → AreFirst (λ x. M x ⊎ IsMember ts x) (with_firsts firsts ts)
all_entered M [] firsts h = record { known = λ n c is. let k = h.known n c is in (inl k.0, k.1); first = λ x n m on. h.first x n (elim m [ inl m ↦ m | inr none ↦ absurd none ]) on }
all_entered M (t ∷ ts) firsts h = regrouped M t ts (with_firsts (with_first firsts t) ts) (all_entered (IsOneMore M t) ts (with_first firsts t) (one_entered M firsts t h))

-- the result of inserting some targets one by one
pub covered : (ts : List TargetRow) → AreFirst (IsMember ts) (with_firsts empty ts)
covered ts =
    let none : AreFirst (λ _. ⊥) (empty {o = by_number}) = record { known = λ n c is. absurd (none-some c (sym (get-empty by_number n) ∙ is)); first = λ x n none on. absurd none } in
    let h = all_entered (λ _. ⊥) ts empty none in
    record { known = λ n c is. let k = h.known n c is in (elim k.0 [ inl none ↦ absurd none | inr m ↦ m ], k.1); first = λ x n m on. h.first x n (inr m) on }
