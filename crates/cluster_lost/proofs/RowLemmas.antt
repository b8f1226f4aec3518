-- A block is added to the rows of its replicas, one after another.
use Rattle.std.proofs.Common.{◌≡◌, ◌∙◌, ℕ, ◌+◌, ◌*◌, ◌^◌, ◌<◌, ◌≤◌, ◌-◌, Bool, true, false, cond, List, [], ◌∷◌, Option, Some, None, refl, sym, ap, subst, take, length, get_or, arith}
use Rattle.std.specs.Prelude.{◌==◌, ◌||◌, zero, suc, option_map, option_and_then, slice_get, slice_set, is_none}
use Rattle.std.specs.List.{list_any}
use Rattle.std.specs.Option.{option_map_or}
use Rattle.std.proofs.lemmas.Bool.{eqb-true, ne_eqb, false≢true}
use Rattle.std.proofs.lemmas.Bool.Decides.{nat_tests}
use Rattle.std.proofs.lemmas.List.{length-set}
use Rattle.std.proofs.lemmas.List.Folds.{list_any_more}
use Rattle.std.proofs.lemmas.Nat.{mul-le}
use Rattle.bm_base.specs.declared.replica.BlockInfo.{BlockInfo}
use Rattle.bm_base.specs.declared.replica.Level.TheVariants.{Highest, VeryUnderReplicated, UnderReplicated, BadlyDistributed}
use Rattle.bm_base.specs.Machine.Levels.{is_at}
use Rattle.cluster_lost.specs.Sources.{IsFew, touches, left_without, is_of, first_row, level_by, live_by, lacking_by}
use Rattle.cluster_lost.specs.Tallies.{AreWithin, Value, at, without_level, weigh, with_block}
use Rattle.cluster_lost.specs.Rows.{AreAdded, AreRowsWithin, IsAddedAt, IsRowWithin, with_row_block, with_touching}
use Rattle.cluster_lost.specs.declared.sources.Source.{Source}
use Rattle.cluster_lost.specs.declared.tally.Tally.{Tally}
use Rattle.cluster_lost.specs.declared.block_pass.RowTally.{RowTally}

-- Bounds.

at_most_one : (b : Bool) → cond b 1 0 ≤ 1
at_most_one true = omega arith
at_most_one false = omega arith

at_most : (v : Value) → ((i : BlockInfo) (us : List Source) → v i us ≤ 1) → (i : BlockInfo) (us : List Source) → weigh v i us ≤ 1
at_most v less i [] = omega arith
at_most v less i (u ∷ us) = less i (u ∷ us)

few_bytes : (i : BlockInfo) (us : List Source) → IsFew i → lacking_by i us ≤ 2 ^ 68 - 16
few_bytes i us few = by (length us == 0)
  where
    by : (b : Bool) → cond b 0 ((i.repl - live_by us) * i.stamp.len) ≤ 2 ^ 68 - 16
    by true = omega arith
    by false =
        let product : (i.repl - live_by us) * i.stamp.len ≤ 16 * (2 ^ 64 - 1) = mul-le (i.repl - live_by us) i.stamp.len 16 (2 ^ 64 - 1) (omega (arith, few.repl)) (omega (arith, few.len)) in
        omega (arith, product)

bytes_at_most : (i : BlockInfo) (us : List Source) → IsFew i → weigh lacking_by i us ≤ 2 ^ 68 - 16
bytes_at_most i [] few = omega arith
bytes_at_most i (u ∷ us) few = few_bytes i (u ∷ us) few

pub within_more : (n : ℕ) (i : BlockInfo) (us : List Source) (t : Tally) → IsFew i → AreWithin n t → AreWithin (n + 1) (with_block i us t)
within_more n i us t few was = record {
  highest = let one : weigh (at Highest) i us ≤ 1 = at_most (at Highest) (λ j xs. at_most_one (is_at Highest (level_by j xs))) i us in omega (arith, was.highest, one);
  very_under_replicated = let one : weigh (at VeryUnderReplicated) i us ≤ 1 = at_most (at VeryUnderReplicated) (λ j xs. at_most_one (is_at VeryUnderReplicated (level_by j xs))) i us in omega (arith, was.very_under_replicated, one);
  under_replicated = let one : weigh (at UnderReplicated) i us ≤ 1 = at_most (at UnderReplicated) (λ j xs. at_most_one (is_at UnderReplicated (level_by j xs))) i us in omega (arith, was.under_replicated, one);
  badly_distributed = let one : weigh (at BadlyDistributed) i us ≤ 1 = at_most (at BadlyDistributed) (λ j xs. at_most_one (is_at BadlyDistributed (level_by j xs))) i us in omega (arith, was.badly_distributed, one);
  none = let one : weigh (without_level) i us ≤ 1 = at_most (without_level) (λ j xs. at_most_one (is_none (level_by j xs))) i us in omega (arith, was.none, one);
  lacking = let one : weigh lacking_by i us ≤ 2 ^ 68 - 16 = bytes_at_most i us few in omega (arith, was.lacking, one);
}

pub within_larger : (m n : ℕ) (t : Tally) → m ≤ n → AreWithin m t → AreWithin n t
within_larger m n t le was = record {
  highest = omega (arith, le, was.highest);
  very_under_replicated = omega (arith, le, was.very_under_replicated);
  under_replicated = omega (arith, le, was.under_replicated);
  badly_distributed = omega (arith, le, was.badly_distributed);
  none = omega (arith, le, was.none);
  lacking = omega (arith, le, was.lacking);
}

row_within : (n : ℕ) (i : BlockInfo) (b : ℕ) (us touching : List Source) (k : ℕ) (r : RowTally) → IsFew i → IsRowWithin n r → IsRowWithin (n + 1) (with_touching i b us touching k r)
row_within n i b us touching k r few was = by (touches k touching)
  where
    by : (x : Bool) → IsRowWithin (n + 1) (cond x (with_row_block i b us (left_without k us) r) r)
    by true = record { before = within_more n i us r.before few was.before; after = within_more n i (left_without k us) r.after few was.after }
    by false = record { before = within_larger n (n + 1) r.before (omega arith) was.before; after = within_larger n (n + 1) r.after (omega arith) was.after }

pub some_mapped : {X Y : Type 0} (f : X → Y) (o : Option X) (y : Y) → option_map f o ≡ Some y → (x : X) × (o ≡ Some x) × (f x ≡ y)
some_mapped f None y e = cc
some_mapped f (Some x) y e = (x, refl, (cc))

pub rows_within : (n : ℕ) (i : BlockInfo) (b : ℕ) (us touching : List Source) (old new : List RowTally) → IsFew i → AreRowsWithin n old → AreAdded i b us touching old new → AreRowsWithin (n + 1) new
rows_within n i b us touching old new few was added k r is =
    let old_row = some_mapped (with_touching i b us touching k) (slice_get old k) r (sym (added.each k) ∙ is) in
    subst (IsRowWithin (n + 1)) old_row.2 (row_within n i b us touching k old_row.0 few (was k old_row.0 old_row.1))

-- The row of a source.

at_index : (us : List Source) (j : ℕ) → j < length us → (u : Source) × (slice_get us j ≡ Some u) × (get_or us j u ≡ u)
at_index [] j low = absurd (omega (arith, low))
at_index (u ∷ us) zero low = (u, refl, refl)
at_index (u ∷ us) (suc j) low = at_index us j (omega (arith, low))

set_there : (rows : List RowTally) (m : ℕ) (s r : RowTally) → slice_get rows m ≡ Some s → slice_get (slice_set rows m r) m ≡ Some r
set_there [] m s r is = cc
set_there (x ∷ rows) zero s r is = refl
set_there (x ∷ rows) (suc m) s r is = set_there rows m s r is

set_elsewhere : (rows : List RowTally) (m k : ℕ) (r : RowTally) → (m ≡ k → ⊥) → slice_get (slice_set rows m r) k ≡ slice_get rows k
set_elsewhere [] m k r apart = refl
set_elsewhere (x ∷ rows) zero zero r apart = absurd (apart refl)
set_elsewhere (x ∷ rows) zero (suc k) r apart = refl
set_elsewhere (x ∷ rows) (suc m) zero r apart = refl
set_elsewhere (x ∷ rows) (suc m) (suc k) r apart = set_elsewhere rows m k r (λ e. apart (ap suc e))

added_there : (m : ℕ) (f : RowTally → RowTally) (old new : List RowTally) → IsAddedAt m f old new → slice_get new m ≡ option_map f (slice_get old m)
added_there m f old new is = by (slice_get old m) refl is
  where
    by : (o : Option RowTally) → slice_get old m ≡ o → new ≡ option_map_or (λ r. slice_set old m (f r)) o old → slice_get new m ≡ option_map f o
    by None none e = ap (λ xs. slice_get xs m) e ∙ none
    by (Some s) some e = ap (λ xs. slice_get xs m) e ∙ set_there old m s (f s) some

added_elsewhere : (m k : ℕ) (f : RowTally → RowTally) (old new : List RowTally) → (m ≡ k → ⊥) → IsAddedAt m f old new → slice_get new k ≡ slice_get old k
added_elsewhere m k f old new apart is = by (slice_get old m) is
  where
    by : (o : Option RowTally) → new ≡ option_map_or (λ r. slice_set old m (f r)) o old → slice_get new k ≡ slice_get old k
    by None e = ap (λ xs. slice_get xs k) e
    by (Some s) e = ap (λ xs. slice_get xs k) e ∙ set_elsewhere old m k (f s) apart

added_count : (m : ℕ) (f : RowTally → RowTally) (old new : List RowTally) → IsAddedAt m f old new → length new ≡ length old
added_count m f old new is = by (slice_get old m) is
  where
    by : (o : Option RowTally) → new ≡ option_map_or (λ r. slice_set old m (f r)) o old → length new ≡ length old
    by None e = ap length e
    by (Some s) e = ap length e ∙ length-set old m (f s)

module _ (i : BlockInfo) (b : ℕ) (us : List Source) (old : List RowTally) (j : ℕ) (low : j < length us) where
  abbrev u : Source
  u = (at_index us j low).0

  abbrev with : ℕ → Bool → RowTally → RowTally
  with k x r = cond x (with_row_block i b us (left_without k us) r) r

  one_more : (k : ℕ) → touches k (take (j + 1) us) ≡ (touches k (take j us) || is_of k u)
  one_more k = list_any_more (is_of k) us j u low ∙ ap (λ y. touches k (take j us) || is_of k y) (at_index us j low).2

  row_is : first_row us j ≡ option_and_then (λ k. cond (touches k (take j us)) None (Some k)) u.row
  row_is = ap (λ o. option_and_then (λ (y : Source). option_and_then (λ k. cond (touches k (take j us)) None (Some k)) y.row) o) (at_index us j low).1

  or_none : (x : Bool) → (x || false) ≡ x
  or_none true = refl
  or_none false = refl

  -- no row gets the block
  pub added_none : (mid : List RowTally) → first_row us j ≡ None → AreAdded i b us (take j us) old mid → AreAdded i b us (take (j + 1) us) old mid
  added_none mid none was = record {
    each = λ k. was.each k ∙ ap (λ x. option_map (with k x) (slice_get old k)) (sym (one_more k ∙ same k u.row refl (sym row_is ∙ none)));
    count = was.count;
  }
    where
      same : (k : ℕ) (o : Option ℕ) → u.row ≡ o → option_and_then (λ m. cond (touches m (take j us)) None (Some m)) o ≡ None → (touches k (take j us) || option_map_or (λ own. own == k) u.row false) ≡ touches k (take j us)
      same k None is e = ap (λ o. touches k (take j us) || option_map_or (λ own. own == k) o false) is ∙ or_none (touches k (take j us))
      same k (Some m) is e =
          ap (λ o. touches k (take j us) || option_map_or (λ own. own == k) o false) is
          ∙ by (m == k) refl (touches m (take j us)) refl e
        where
          by : (x : Bool) → (m == k) ≡ x → (y : Bool) → touches m (take j us) ≡ y → cond y None (Some m) ≡ None → (touches k (take j us) || x) ≡ touches k (take j us)
          by false apart y there h = or_none (touches k (take j us))
          by true at false there h = cc
          by true at true there h = let known : touches k (take j us) ≡ true = subst (λ n. touches n (take j us) ≡ true) (eqb-true m k at) there in ap (λ z. z || true) known ∙ sym known

  -- one row gets it
  pub added_more : (left : List Source) (mid new : List RowTally) (m : ℕ) → first_row us j ≡ Some m → left ≡ left_without m us → AreAdded i b us (take j us) old mid
      → IsAddedAt m (with_row_block i b us left) mid new → AreAdded i b us (take (j + 1) us) old new
  added_more left mid new m is left_is was added = record {
    each = λ k. each k (m == k) refl;
    count = added_count m (with_row_block i b us left) mid new added ∙ was.count;
  }
    where
      own : (o : Option ℕ) → u.row ≡ o → option_and_then (λ n. cond (touches n (take j us)) None (Some n)) o ≡ Some m → (u.row ≡ Some m) × (touches m (take j us) ≡ false)
      own None row e = cc
      own (Some n) row e = by (touches n (take j us)) refl e
        where
          by : (y : Bool) → touches n (take j us) ≡ y → cond y None (Some n) ≡ Some m → (u.row ≡ Some m) × (touches m (take j us) ≡ false)
          by true there h = cc
          by false none h = let same : n ≡ m = (cc) in (row ∙ ap Some same, subst (λ z. touches z (take j us) ≡ false) same none)

      parts : (u.row ≡ Some m) × (touches m (take j us) ≡ false)
      parts = own u.row refl (sym row_is ∙ is)

      twice : (k : ℕ) (f : RowTally → RowTally) (o : Option RowTally) → f ≡ with_row_block i b us (left_without k us) → option_map f (option_map (with k false) o) ≡ option_map (with k true) o
      twice k f None e = refl
      twice k f (Some r) e = ap (λ g. Some (g r)) e

      each : (k : ℕ) (x : Bool) → (m == k) ≡ x → slice_get new k ≡ option_map (with_touching i b us (take (j + 1) us) k) (slice_get old k)
      each k true at =
          subst (λ n. slice_get new n ≡ option_map (with_touching i b us (take (j + 1) us) n) (slice_get old n)) (eqb-true m k at)
          (added_there m (with_row_block i b us left) mid new added
          ∙ ap (option_map (with_row_block i b us left)) (was.each m ∙ ap (λ y. option_map (with m y) (slice_get old m)) parts.1)
          ∙ twice m (with_row_block i b us left) (slice_get old m) (ap (with_row_block i b us) left_is)
          ∙ ap (λ y. option_map (with m y) (slice_get old m)) (sym (one_more m ∙ (λ z. parts.1 z || option_map_or (λ own. own == m) (parts.0 z) false) ∙ self)))
        where
          self : (m == m) ≡ true
          self = grind (arith, nat_tests)
      each k false apart =
          added_elsewhere m k (with_row_block i b us left) mid new (λ e. false≢true (sym apart ∙ ap (λ n. m == n) (sym e) ∙ self)) added
          ∙ was.each k
          ∙ ap (λ y. option_map (with k y) (slice_get old k)) (sym (one_more k ∙ ap (λ o. touches k (take j us) || option_map_or (λ own. own == k) o false) parts.0 ∙ ap (λ y. touches k (take j us) || y) apart ∙ or_none (touches k (take j us))))
        where
          self : (m == m) ≡ true
          self = grind (arith, nat_tests)
