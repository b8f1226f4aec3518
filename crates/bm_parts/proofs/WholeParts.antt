-- Joining shards' own parts and cutting the whole gives them back; cut parts join to their whole.
use Rattle.std.proofs.Common.{◌≡◌, ℕ, zero, suc, ◌+◌, ◌<◌, ◌≤◌, Bool, true, false, ◌&&◌, List, [], ◌∷◌, map, filter, length, refl, sym, ap, subst, ◌∙◌, arith, eqb-true, ne_eqb}
use Rattle.std.specs.Prelude.{◌==◌}
use Rattle.std.proofs.lemmas.Bool.{eqb-false}
use Rattle.bm_base.specs.Words.{Map, Order, entries, empty, insert_all, Holdings, empty_holdings, range_from}
use Rattle.bm_base.specs.Shards.{shard_of, cut}
use Rattle.bm_base.proofs.MapLaws.{entries-keep, get-empty}
use Rattle.bm_parts.specs.Whole.{joined_with, whole_of, parts_from, parts, AreOwn}
use Rattle.bm_parts.specs.Whole as law
use Rattle.bm_base.proofs.ForEach.{each_of}
use Rattle.bm_parts.proofs.Filters.{filter_none, filter_within}
use Rattle.bm_base.proofs.ListTests.{filter_filter}
use Rattle.bm_parts.proofs.PartMaps.{part, part_is, get_out, part_inserted_all}
use Rattle.bm_parts.proofs.Parts.{own, own_replica, cut_to, whole_from_parts}
use Rattle.bm_parts.proofs.JoinedShares.{own_entries}

-- The union of two maps, each with keys that pass its own test only.

-- no element passes two tests that exclude each other
filter_other : {X : Type 0} (p q : X → Bool) → ((x : X) → p x ≡ true → q x ≡ false) → (xs : List X) → filter q (filter p xs) ≡ []
filter_other p q other xs = filter_filter q p xs ∙ filter_none (λ x. p x && q x) xs (each_of (λ x. (p x && q x) ≡ false) xs (λ x. fails (p x) (q x) (other x)))
  where
    fails : (a b : Bool) → (a ≡ true → b ≡ false) → (a && b) ≡ false
    fails true b h = h refl
    fails false b h = refl

module _ {K X : Type 0} {o : Order K} where
  -- the part of a union that one of the maps is
  put_own : (p : K → Bool) (m n : Map o X) → part p m ≡ m → part p n ≡ empty → part p (insert_all n (entries m)) ≡ m
  put_own p m n mine none =
      part_inserted_all p n (entries m)
      ∙ (λ j. insert_all (none j) (own_again j)) ∙ own_entries m
    where
      own_again : filter (λ e. p e.0) (entries m) ≡ entries m
      own_again = ap (λ k. filter (λ e. p e.0) (entries k)) (sym mine) ∙ ap (filter (λ (e : K × X). p e.0)) (entries-keep o m (λ k _. p k)) ∙ filter_within (λ (e : K × X). p e.0) (λ e. p e.0) (λ e. p e.0) (λ _ _. refl) (λ _ h. h) (entries m) ∙ sym (entries-keep o m (λ k _. p k)) ∙ ap entries mine

  -- the part of a union to which one of the maps adds nothing
  put_other : (p q : K → Bool) (m n : Map o X) → part p m ≡ m → ((k : K) → p k ≡ true → q k ≡ false) → part q (insert_all n (entries m)) ≡ part q n
  put_other p q m n mine other =
      part_inserted_all q n (entries m)
      ∙ ap (insert_all (part q n)) (ap (λ k. filter (λ e. q e.0) (entries k)) (sym mine) ∙ ap (filter (λ (e : K × X). q e.0)) (entries-keep o m (λ k _. p k)) ∙ filter_other (λ (e : K × X). p e.0) (λ e. q e.0) (λ e. other e.0) (entries m))

  part_empty : (p : K → Bool) → part p (empty {X = X} {o = o}) ≡ empty
  part_empty p = part_is p (empty {X = X} {o = o}) empty (λ q _. refl) (λ q _. get-empty {X = X} o q)

  part_again : (p : K → Bool) (m : Map o X) → part p (part p m) ≡ part p m
  part_again p m = part_is p (part p m) (part p m) (λ q _. refl) (λ q e. get_out p m q e)

-- Holdings.

apart : (i j shards b : ℕ) → (i ≡ j → ⊥) → (shard_of b shards == i) ≡ true → (shard_of b shards == j) ≡ false
apart i j shards b other e = ne_eqb (shard_of b shards) j (λ f. other (sym (eqb-true (shard_of b shards) i e) ∙ f))

pub cut_empty : (i shards : ℕ) → cut empty_holdings i shards ≡ empty_holdings
unfolding cut empty_holdings
cut_empty i shards = λ j. record { blocks = part_empty (own i shards) j; replicas = part_empty (own_replica i shards) j; pending = part_empty (own_replica i shards) j }

pub cut_again : (H : Holdings) (i shards : ℕ) → cut (cut H i shards) i shards ≡ cut H i shards
unfolding cut
cut_again H i shards = λ j. record {
  blocks = part_again (own i shards) H.blocks j;
  replicas = part_again (own_replica i shards) H.replicas j;
  pending = part_again (own_replica i shards) H.pending j;
}

cut_next_to_own : (P W : Holdings) (i shards : ℕ) → cut P i shards ≡ P → cut W i shards ≡ empty_holdings → cut (joined_with P W) i shards ≡ P
unfolding cut joined_with empty_holdings
cut_next_to_own P W i shards mine none =
    cut_to i shards (joined_with P W) P
    (put_own (own i shards) P.blocks W.blocks (ap (λ H. H.blocks) mine) (ap (λ H. H.blocks) none))
    (put_own (own_replica i shards) P.replicas W.replicas (ap (λ H. H.replicas) mine) (ap (λ H. H.replicas) none))
    (put_own (own_replica i shards) P.pending W.pending (ap (λ H. H.pending) mine) (ap (λ H. H.pending) none))

cut_next_to_other : (P W : Holdings) (i j shards : ℕ) → (i ≡ j → ⊥) → cut P i shards ≡ P → cut (joined_with P W) j shards ≡ cut W j shards
unfolding cut joined_with
cut_next_to_other P W i j shards other mine = λ k. record {
  blocks = put_other (own i shards) (own j shards) P.blocks W.blocks (ap (λ H. H.blocks) mine) (λ b. apart i j shards b other) k;
  replicas = put_other (own_replica i shards) (own_replica j shards) P.replicas W.replicas (ap (λ H. H.replicas) mine) (λ q. apart i j shards q.block other) k;
  pending = put_other (own_replica i shards) (own_replica j shards) P.pending W.pending (ap (λ H. H.pending) mine) (λ q. apart i j shards q.block other) k;
}

-- a shard before the first has nothing of the whole
cut_below : (shards i : ℕ) (Ps : List Holdings) (index : ℕ) → i < index → AreOwn shards index Ps → cut (whole_of Ps) i shards ≡ empty_holdings
cut_below shards i [] index less each = cut_empty i shards
cut_below shards i (P ∷ Ps) index less each =
    cut_next_to_other P (whole_of Ps) index i shards (λ e. omega (arith, less, e)) each.0 ∙ cut_below shards i Ps (suc index) (omega (arith, less)) each.1

same_numbers : (X : Type 0) (f g : ℕ → X) (index n : ℕ) → ((i : ℕ) → index ≤ i → f i ≡ g i) → map f (range_from index n) ≡ map g (range_from index n)
same_numbers X f g index zero same = refl
same_numbers X f g index (suc n) same = λ j. same index (omega arith) j ∷ same_numbers X f g (suc index) n (λ i h. same i (omega (arith, h))) j

pub parts_again : (shards : ℕ) (Ps : List Holdings) (index : ℕ) → AreOwn shards index Ps → parts_from (whole_of Ps) shards index (length Ps) ≡ Ps
parts_again shards [] index each = refl
parts_again shards (P ∷ Ps) index each =
    (λ j. cut_next_to_own P (whole_of Ps) index shards each.0 (cut_below shards index Ps (suc index) (omega arith) each.1) j
    ∷ (same_numbers Holdings (λ i. cut (joined_with P (whole_of Ps)) i shards) (λ i. cut (whole_of Ps) i shards) (suc index) (length Ps)
    (λ i h. cut_next_to_other P (whole_of Ps) index i shards (λ e. omega (arith, h, e)) each.0) ∙ parts_again shards Ps (suc index) each.1) j)

pub whole_has_its_parts : law.whole_has_its_parts
whole_has_its_parts Ps shards each long = ap (λ n. parts_from (whole_of Ps) shards 0 n) long ∙ parts_again shards Ps 0 each

-- each part of the whole has its own blocks only
pub cuts_are_own : (H : Holdings) (shards index n : ℕ) → AreOwn shards index (parts_from H shards index n)
cuts_are_own H shards index zero = tt
cuts_are_own H shards index (suc n) = (cut_again H index shards, cuts_are_own H shards (suc index) n)

pub length_numbers : (X : Type 0) (f : ℕ → X) (index n : ℕ) → length (map f (range_from index n)) ≡ n
length_numbers X f index zero = refl
length_numbers X f index (suc n) = let rest = length_numbers X f (suc index) n in omega (arith, rest)

abbrev head_of : {X : Type 0} → X → List X → X
head_of x [] = x
head_of x (y ∷ ys) = y

abbrev tail_of : {X : Type 0} → List X → List X
tail_of [] = []
tail_of (y ∷ ys) = ys

at_number : {X : Type 0} (f g : ℕ → X) (index n i : ℕ) → index ≤ i → i < index + n → map f (range_from index n) ≡ map g (range_from index n) → f i ≡ g i
at_number f g index zero i low high e = absurd (omega (arith, low, high))
at_number f g index (suc n) i low high e =
    (elim (index == i) as (λ b. (index == i) ≡ b → f i ≡ g i) [
      | true ↦ λ t. subst (λ k. f k ≡ g k) (eqb-true index i t) (ap (head_of (f index)) e)
      | false ↦ λ t. let other = eqb-false index i t in at_number f g (suc index) n i (omega (arith, low, other)) (omega (arith, high)) (ap tail_of e)
    ]) refl

pub parts_are_the_whole : law.parts_are_the_whole
parts_are_the_whole H shards some =
    let again : parts (whole_of (parts H shards)) shards ≡ parts H shards =
    whole_has_its_parts (parts H shards) shards (cuts_are_own H shards 0 shards) (sym (length_numbers Holdings (λ i. cut H i shards) 0 shards)) in
    whole_from_parts (whole_of (parts H shards)) H shards some (λ i h. at_number (λ i. cut (whole_of (parts H shards)) i shards) (λ i. cut H i shards) 0 shards i (omega arith) (omega (arith, h)) again)
