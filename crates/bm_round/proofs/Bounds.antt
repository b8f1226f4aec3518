-- A round's transfers are at most `work` times the alive nodes, its deletes `invalidate` per node.
use Rattle.std.proofs.Common.{◌≡◌, ℕ, zero, suc, ◌≤◌, ◌<◌, Bool, true, false, cond, List, [], ◌∷◌, ◌++◌, filter, flat_map, take, length, Option, Some, None, refl, sym, ap, subst, ◌∙◌, arith, append-nil}
use Rattle.std.specs.Prelude.{◌==◌, ◌*◌, if◌then◌else◌, nat_le, option_to_list}
use Rattle.std.specs.Option.{option_map_or}
use Rattle.std.proofs.lemmas.Bool.{eqb-true, or_parts}
use Rattle.std.proofs.lemmas.Bool.Decides.{nat_tests}
use Rattle.std.proofs.lemmas.List.{length-append}
use Rattle.std.proofs.lemmas.List.Elements.{filter-append}
use Rattle.bm_base.specs.declared.commands.Transfer.{Transfer}
use Rattle.bm_base.specs.declared.commands.Delete.{Delete}
use Rattle.bm_base.specs.declared.round.Wish.{Wish}
use Rattle.bm_base.specs.declared.round.RoundPart.{RoundPart}
use Rattle.bm_base.specs.Words.{keys, len, RoundLimits, Cluster, has, has_repeats, node_of, has_storage}
use Rattle.bm_base.specs.Choices.{merged_wishes, merged_deletes, one_by_one, transfer_by, transfers_over, chosen_transfers, first_of_each_node, chosen_deletes}
use Rattle.bm_base.proofs.ForEach.{Each, each_passing, each_then}
use Rattle.bm_base.proofs.OneWish.{once_keys}
use Rattle.bm_base.proofs.Slices.{filter_shorter}

-- Transfers.

module _ (most : ℕ) where
  one_more : (chosen : List Transfer) (o : Option Transfer) → length chosen ≤ most → length (chosen ++ option_to_list (if nat_le most (length chosen) then None else o)) ≤ most
  one_more chosen o few = by (nat_le most (length chosen)) refl o
    where
      as_many : length (chosen ++ []) ≤ most
      as_many = subst (λ ts. length ts ≤ most) (sym (append-nil chosen)) few

      by : (b : Bool) → nat_le most (length chosen) ≡ b → (o : Option Transfer) → length (chosen ++ option_to_list (if b then None else o)) ≤ most
      by true e o = as_many
      by false e None = as_many
      by false e (Some t) =
          let long = length-append chosen (t ∷ []) in
          let less : length chosen < most = grind (arith, nat_tests, e) in
          omega (arith, long, less)

module _ (limits : RoundLimits) (C : Cluster) where
  few_over : (chosen : List Transfer) (ws : List Wish) → length chosen ≤ limits.work * len C.nodes → length (transfers_over limits C chosen ws) ≤ limits.work * len C.nodes
  unfolding transfer_by
  few_over chosen [] few = few
  few_over chosen (w ∷ ws) few = few_over (chosen ++ option_to_list (transfer_by limits C chosen w)) ws (one_more (limits.work * len C.nodes) chosen _ few)

  pub few_transfers : (ps : List RoundPart) → length (chosen_transfers limits C ps) ≤ limits.work * len C.nodes
  unfolding chosen_transfers
  few_transfers ps = few_over [] (one_by_one (merged_wishes ps)) (omega arith)

-- Deletes.

length_take : {X : Type 0} (n : ℕ) (xs : List X) → length (take n xs) ≤ n
length_take zero xs = omega arith
length_take (suc n) [] = omega arith
length_take (suc n) (x ∷ xs) = let h = length_take n xs in omega (arith, h)

filter_none : {X : Type 0} (p : X → Bool) (xs : List X) → Each (λ x. p x ≡ false) xs → filter p xs ≡ []
filter_none p [] h = refl
filter_none p (x ∷ xs) h = ap (λ b. cond b (x ∷ filter p xs) (filter p xs)) h.0 ∙ filter_none p xs h.1

each_taken : {X : Type 0} (P : X → Type 0) (n : ℕ) (xs : List X) → Each P xs → Each P (take n xs)
each_taken P zero xs h = tt
each_taken P (suc n) [] h = tt
each_taken P (suc n) (x ∷ xs) h = (h.0, each_taken P n xs h.1)

-- a storage is on one node
one_node : (o : Option ℕ) (n k : ℕ) → (k == n) ≡ false → option_map_or (λ m. m == k) o false ≡ true → option_map_or (λ m. m == n) o false ≡ false
one_node None n k apart here = refl
one_node (Some m) n k apart here = ap (λ j. j == n) (eqb-true m k here) ∙ apart

elsewhere : (C : Cluster) (n k s : ℕ) → (k == n) ≡ false → has_storage C k s ≡ true → has_storage C n s ≡ false
unfolding has_storage
elsewhere C n k s apart here = one_node (node_of C s) n k apart here

module _ (limits : RoundLimits) (C : Cluster) (ds : List Delete) where
  abbrev is_on : ℕ → Delete → Bool
  is_on n d = has_storage C n d.storage

  abbrev first_of : ℕ → List Delete
  first_of n = take limits.invalidate (filter (is_on n) ds)

  none_of : (n k : ℕ) → (k == n) ≡ false → filter (is_on n) (first_of k) ≡ []
  none_of n k apart =
      filter_none (is_on n) (first_of k)
      (each_then (λ d. is_on k d ≡ true) (λ d. is_on n d ≡ false) (first_of k)
      (each_taken (λ d. is_on k d ≡ true) limits.invalidate (filter (is_on k) ds) (each_passing (is_on k) ds)) (λ d here. elsewhere C n k d.storage apart here))

  none_among : (n : ℕ) (ks : List ℕ) → has ks n ≡ false → filter (is_on n) (flat_map first_of ks) ≡ []
  none_among n [] none = refl
  none_among n (k ∷ ks) none =
      let two = or_parts (k == n) (has ks n) none in
      filter-append (is_on n) (first_of k) (flat_map first_of ks) ∙ (λ i. none_of n k two.0 i ++ none_among n ks two.1 i)

  few_among : (n : ℕ) (ks : List ℕ) → has_repeats ks ≡ false → length (filter (is_on n) (flat_map first_of ks)) ≤ limits.invalidate
  few_among n [] once = omega arith
  few_among n (k ∷ ks) once =
      let two = or_parts (has ks k) (has_repeats ks) once in
      subst (λ xs. length xs ≤ limits.invalidate) (sym (filter-append (is_on n) (first_of k) (flat_map first_of ks))) (by (k == n) refl two.0 (few_among n ks two.1))
    where
      by : (b : Bool) → (k == n) ≡ b → has ks k ≡ false → length (filter (is_on n) (flat_map first_of ks)) ≤ limits.invalidate
          → length (filter (is_on n) (first_of k) ++ filter (is_on n) (flat_map first_of ks)) ≤ limits.invalidate
      by false apart none few = subst (λ xs. length (xs ++ filter (is_on n) (flat_map first_of ks)) ≤ limits.invalidate) (sym (none_of n k apart)) few
      by true same none few =
          let rest = none_among n ks (ap (has ks) (sym (eqb-true k n same)) ∙ none) in
          let whole : length (filter (is_on n) (first_of k) ++ filter (is_on n) (flat_map first_of ks)) ≡ length (filter (is_on n) (first_of k)) =
          ap (λ xs. length (filter (is_on n) (first_of k) ++ xs)) rest ∙ ap length (append-nil (filter (is_on n) (first_of k))) in
          let less = filter_shorter (is_on n) (first_of k) in
          let taken = length_take limits.invalidate (filter (is_on k) ds) in
          omega (arith, whole, less, taken)

  few_on_node : (n : ℕ) → length (filter (is_on n) (first_of_each_node limits C ds)) ≤ limits.invalidate
  unfolding first_of_each_node
  few_on_node n = few_among n (keys C.nodes) (once_keys C.nodes)

pub few_deletes : (limits : RoundLimits) (C : Cluster) (ps : List RoundPart) (n : ℕ) → length (filter (λ (d : Delete). has_storage C n d.storage) (chosen_deletes limits C ps)) ≤ limits.invalidate
unfolding chosen_deletes
few_deletes limits C ps n = few_on_node limits C (merged_deletes ps) n
