-- The numbers of replicas that an event adds and removes in the parts add up to the whole's.
use Rattle.std.proofs.Common.{◌≡◌, ℕ, zero, suc, ◌+◌, ◌<◌, ◌≤◌, Bool, true, false, cond, not, is_some, List, [], ◌∷◌, filter, count_by, refl, sym, ap, ◌∙◌, arith, mod-lt, eqb-true, ne_eqb}
use Rattle.std.specs.Prelude.{◌==◌}
use Rattle.std.proofs.lemmas.Bool.{eqb-false}
use Rattle.std.proofs.lemmas.List.Recursion.{is_count_by}
use Rattle.bm_base.specs.declared.replica.ReplicaId.{ReplicaId}
use Rattle.bm_base.specs.declared.replica.Marks.{Marks}
use Rattle.bm_base.specs.Words.{Map, entries, contains_key, by_replica, change_holdings, new_replicas, done}
use Rattle.bm_base.specs.Shards.{shard_of, cut}
use Rattle.bm_base.proofs.MapLaws.{entries-keep}
use Rattle.bm_parts.proofs.PartMaps.{part, get_in}
use Rattle.bm_parts.proofs.Parts.{parts_changed}
use Rattle.bm_parts.specs.Parts as law

-- the number of elements that pass, by recursion
abbrev tally : {X : Type 0} → (X → Bool) → List X → ℕ
tally p [] = 0
tally p (x ∷ xs) = cond (p x) (1 + tally p xs) (tally p xs)

tally_is : {X : Type 0} (p : X → Bool) (xs : List X) → tally p xs ≡ count_by p xs
tally_is p xs = is_count_by (tally p) p refl (λ _ _. refl) xs

-- Sums over the shards.

sum_none : (n : ℕ) → law.sum_over n (λ _. 0) ≡ 0
sum_none zero = refl
sum_none (suc n) = omega (arith, sum_none n)

sum_both : (n : ℕ) (f g : ℕ → ℕ) → law.sum_over n (λ i. f i + g i) ≡ law.sum_over n f + law.sum_over n g
sum_both zero f g = refl
sum_both (suc n) f g = omega (arith, sum_both n f g)

sum_same : (n : ℕ) (f g : ℕ → ℕ) → ((i : ℕ) → f i ≡ g i) → law.sum_over n f ≡ law.sum_over n g
sum_same zero f g h = refl
sum_same (suc n) f g h = λ i. sum_same n f g h i + h n i

-- c for one shard, 0 for the others
abbrev one_at : ℕ → ℕ → ℕ → ℕ
one_at x c i = cond (x == i) c 0

sum_past : (n x c : ℕ) → n ≤ x → law.sum_over n (one_at x c) ≡ 0
sum_past zero x c h = refl
sum_past (suc n) x c h =
    let none : one_at x c n ≡ 0 = ap (λ b. cond b c 0) (ne_eqb x n (λ e. omega (arith, e))) in
    let rest : law.sum_over n (one_at x c) ≡ 0 = sum_past n x c (omega arith) in
    omega (arith, none, rest)

sum_one_by : (n x c : ℕ) → x < suc n → (b : Bool) → (x == n) ≡ b → (x < n → law.sum_over n (one_at x c) ≡ c) → law.sum_over (suc n) (one_at x c) ≡ c
sum_one_by n x c h true e ih =
    let is : x ≡ n = eqb-true x n e in
    let here : one_at x c n ≡ c = ap (λ b. cond b c 0) e in
    let rest : law.sum_over n (one_at x c) ≡ 0 = sum_past n x c (omega arith) in
    omega (arith, here, rest)
sum_one_by n x c h false e ih =
    let other : x ≡ n → ⊥ = eqb-false x n e in
    let here : one_at x c n ≡ 0 = ap (λ b. cond b c 0) e in
    let rest : law.sum_over n (one_at x c) ≡ c = ih (omega arith) in
    omega (arith, here, rest)

sum_one : (n x c : ℕ) → x < n → law.sum_over n (one_at x c) ≡ c
sum_one zero x c h = absurd (omega arith)
sum_one (suc n) x c h = sum_one_by n x c h (x == n) refl (λ lt. sum_one n x c lt)

-- Counts, shard by shard.

tally_head : {X : Type 0} (p : X → Bool) (b : Bool) (x : X) (xs : List X) → tally p (cond b (x ∷ xs) xs) ≡ cond b (cond (p x) 1 0) 0 + tally p xs
tally_head p true x xs = counted (p x)
  where
    counted : (c : Bool) → cond c (1 + tally p xs) (tally p xs) ≡ cond c 1 0 + tally p xs
    counted true = refl
    counted false = omega arith
tally_head p false x xs = omega arith

counted_one : (c : Bool) (n : ℕ) → cond c (1 + n) n ≡ cond c 1 0 + n
counted_one true n = refl
counted_one false n = omega arith

module _ {X : Type 0} (shards : ℕ) (shard : X → ℕ) (below : (x : X) → shard x < shards) (p : X → Bool) where
  abbrev in_shard : List X → ℕ → ℕ
  in_shard xs i = tally p (filter (λ x. shard x == i) xs)

  tallies_add_up : (xs : List X) → law.sum_over shards (in_shard xs) ≡ tally p xs
  tallies_add_up [] = sum_none shards
  tallies_add_up (x ∷ xs) =
      sum_same shards (in_shard (x ∷ xs)) (λ i. one_at (shard x) (cond (p x) 1 0) i + in_shard xs i) (λ i. tally_head p (shard x == i) x (filter (λ x. shard x == i) xs))
      ∙ sum_both shards (one_at (shard x) (cond (p x) 1 0)) (in_shard xs)
      ∙ (λ k. sum_one shards (shard x) (cond (p x) 1 0) (below x) k + tallies_add_up xs k)
      ∙ sym (counted_one (p x) (tally p xs))

-- tests that agree on the elements that a filter keeps
same_head : {X : Type 0} (p q : X → Bool) (b : Bool) (x : X) (ys : List X) → (b ≡ true → p x ≡ q x) → tally p ys ≡ tally q ys → tally p (cond b (x ∷ ys) ys) ≡ tally q (cond b (x ∷ ys) ys)
same_head p q true x ys h e = λ i. cond (h refl i) (1 + e i) (e i)
same_head p q false x ys h e = e

tally_same : {X : Type 0} (p q r : X → Bool) → ((x : X) → r x ≡ true → p x ≡ q x) → (xs : List X) → tally p (filter r xs) ≡ tally q (filter r xs)
tally_same p q r same [] = refl
tally_same p q r same (x ∷ xs) = same_head p q (r x) x (filter r xs) (same x) (tally_same p q r same xs)

module _ (index shards : ℕ) where
  abbrev mine : ReplicaId → Bool
  mine q = shard_of q.block shards == index

  -- the new replicas of a part
  new_in_part : (old new : Map by_replica Marks) → new_replicas (part mine old) (part mine new) ≡ tally (λ e. not (contains_key old e.0)) (filter (λ e. mine e.0) (entries new))
  unfolding new_replicas
  new_in_part old new =
      sym (tally_is (λ e. not (contains_key (part mine old) e.0)) (entries (part mine new)))
      ∙ ap (tally (λ e. not (contains_key (part mine old) e.0))) (entries-keep by_replica new (λ q _. mine q))
      ∙ tally_same (λ e. not (contains_key (part mine old) e.0)) (λ e. not (contains_key old e.0)) (λ e. mine e.0) (λ e t. ap (λ z. not (is_some z)) (get_in mine old e.0 t)) (entries new)

sums_to_new : (shards : ℕ) → 1 ≤ shards → (old new : Map by_replica Marks) → law.sum_over shards (λ index. new_replicas (part (mine index shards) old) (part (mine index shards) new)) ≡ new_replicas old new
unfolding new_replicas
sums_to_new shards h old new =
    sum_same shards (λ index. new_replicas (part (mine index shards) old) (part (mine index shards) new)) (in_shard shards (λ e. shard_of e.0.block shards) (λ e. mod-lt e.0.block h) (λ e. not (contains_key old e.0)) (entries new)) (λ index. new_in_part index shards old new)
    ∙ tallies_add_up shards (λ e. shard_of e.0.block shards) (λ e. mod-lt e.0.block h) (λ e. not (contains_key old e.0)) (entries new)
    ∙ tally_is (λ e. not (contains_key old e.0)) (entries new)

pub answers_add_up : law.parts_answers_add_up
unfolding done cut
answers_add_up C H e shards h =
    let G = change_holdings C H e in (
      sum_same shards (λ index. (law.done_in C H e shards index).added) (λ index. new_replicas (part (mine index shards) H.replicas) (part (mine index shards) G.replicas))
          (λ index. ap (λ P. new_replicas (part (mine index shards) H.replicas) P.replicas) (sym (parts_changed C H e index shards)))
          ∙ sums_to_new shards h H.replicas G.replicas,
      sum_same shards (λ index. (law.done_in C H e shards index).removed) (λ index. new_replicas (part (mine index shards) G.replicas) (part (mine index shards) H.replicas))
          (λ index. ap (λ P. new_replicas P.replicas (part (mine index shards) H.replicas)) (sym (parts_changed C H e index shards)))
          ∙ sums_to_new shards h G.replicas H.replicas,
    )
