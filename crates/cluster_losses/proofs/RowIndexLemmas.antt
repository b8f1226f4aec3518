-- Domains that have no node in common give each node one row.
use Rattle.std.proofs.Common.{◌≡◌, ◌∙◌, ◌⊎◌, inl, inr, ℕ, ◌+◌, ◌<◌, ◌≤◌, Bool, true, false, cond, List, Option, Some, None, refl, sym, ap, subst, arith}
use Rattle.std.specs.Prelude.{◌==◌, slice_get}
use Rattle.std.proofs.lemmas.Bool.{cases_lt, eq-eqb, ne_eqb}
use Rattle.std.proofs.lemmas.Option.{slice_get_within}
use Rattle.cluster_lost.specs.Deaths.{is_among}
use Rattle.cluster_losses.specs.RowIndex.{AreApart, AreRowsOf, is_row}
use Rattle.cluster_losses.specs.declared.failure_domains.FailureDomain.{FailureDomain}

-- the first domains have given their nodes their rows
pub record AreRowsUpTo (i : ℕ) (domains : List FailureDomain) (row_of : ℕ → Option ℕ) : Type 0 where
  pub each : (k : ℕ) (d : FailureDomain) → k < i → slice_get domains k ≡ Some d → (n : ℕ) → is_row k (row_of n) ≡ is_among d.nodes n
  pub few : (n j : ℕ) → row_of n ≡ Some j → j < i

pub no_rows : (domains : List FailureDomain) (row_of : ℕ → Option ℕ) → ((n : ℕ) → row_of n ≡ None) → AreRowsUpTo 0 domains row_of
no_rows domains row_of none = record {
  each = λ k d low here n. absurd (omega (arith, low));
  few = λ n j is. absurd (none_some j (sym (none n) ∙ is));
}
  where
    none_some : (j : ℕ) → None ≡ Some j → ⊥
    none_some j e = cc

pub all_rows : (i : ℕ) (domains : List FailureDomain) (row_of : ℕ → Option ℕ) (n : ℕ) → AreRowsUpTo i domains row_of → ((k : ℕ) (d : FailureDomain) → slice_get domains k ≡ Some d → k < i) → AreRowsOf domains row_of
all_rows i domains row_of n was low k d here m = was.each k d (low k d here) here m

module _ (i : ℕ) (domains : List FailureDomain) (d : FailureDomain) (here : slice_get domains i ≡ Some d) (apart : AreApart domains) (old new : ℕ → Option ℕ)
    (is : (n : ℕ) → new n ≡ cond (is_among d.nodes n) (Some i) (old n)) (was : AreRowsUpTo i domains old) where
  others : (k : ℕ) (e : FailureDomain) → k < i → slice_get domains k ≡ Some e → (n : ℕ) → is_row k (new n) ≡ is_among e.nodes n
  others k e low there n = ap (is_row k) (is n) ∙ by (is_among d.nodes n) refl
    where
      not_both : is_among d.nodes n ≡ true → (b : Bool) → is_among e.nodes n ≡ b → b ≡ false
      not_both mine false theirs = refl
      not_both mine true theirs = absurd (omega (arith, low, apart i k d e here there n mine theirs))

      by : (b : Bool) → is_among d.nodes n ≡ b → is_row k (cond b (Some i) (old n)) ≡ is_among e.nodes n
      by false mine = was.each k e low there n
      by true mine = ne_eqb i k (λ same. absurd (omega (arith, low, same))) ∙ sym (not_both mine (is_among e.nodes n) refl)

  own : (n : ℕ) → is_row i (new n) ≡ is_among d.nodes n
  own n = ap (is_row i) (is n) ∙ by (is_among d.nodes n)
    where
      not_own : (o : Option ℕ) → old n ≡ o → is_row i o ≡ false
      not_own None h = refl
      not_own (Some j) h = let low = was.few n j h in ne_eqb j i (λ same. absurd (omega (arith, low, same)))

      by : (b : Bool) → is_row i (cond b (Some i) (old n)) ≡ b
      by true = eq-eqb i i refl
      by false = not_own (old n) refl

  some_same : (x y : FailureDomain) → Some x ≡ Some y → x ≡ y
  some_same x y e = cc

  pub rows_more : AreRowsUpTo (i + 1) domains new
  rows_more = record {
    each = λ k e low there n. each k e (cases_lt k i) low there n;
    few = λ n j there. few n j (is_among d.nodes n) (sym (is n) ∙ there);
  }
    where
      each : (k : ℕ) (e : FailureDomain) → (k < i) ⊎ (i ≤ k) → k < i + 1 → slice_get domains k ≡ Some e → (n : ℕ) → is_row k (new n) ≡ is_among e.nodes n
      each k e (inl below) low there n = others k e below there n
      each k e (inr above) low there n =
          let same : k ≡ i = omega (arith, above, low) in
          let is_d : d ≡ e = some_same d e (sym here ∙ ap (slice_get domains) (sym same) ∙ there) in
          ap (λ j. is_row j (new n)) same ∙ own n ∙ ap (λ (f : FailureDomain). is_among f.nodes n) is_d

      few : (n j : ℕ) (b : Bool) → cond b (Some i) (old n) ≡ Some j → j < i + 1
      few n j true h = let same : i ≡ j = (cc) in omega (arith, same)
      few n j false h = let low = was.few n j h in omega (arith, low)
