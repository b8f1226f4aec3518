-- Counting the transfers of a part's own blocks one after another counts all of them, and reserves
-- capacity for each.
use Rattle.std.proofs.Common.{◌≡◌, ℕ, zero, suc, ◌≤◌, ◌+◌, Bool, true, false, cond, List, [], ◌∷◌, ◌++◌, filter, length, take, nat_eq, arith, refl, sym, ap, subst, ◌∙◌}
use Rattle.std.specs.Prelude.{◌==◌}
use Rattle.std.proofs.lemmas.List.{length-append}
use Rattle.std.proofs.lemmas.List.Elements.{filter-append}
use Rattle.std.proofs.lemmas.Bool.{eqb-true}
use Rattle.bm_base.specs.declared.ids.Part.{Part}
use Rattle.bm_base.specs.declared.commands.Transfer.{Transfer}
use Rattle.bm_base.specs.Shards.{shard_of}
use Rattle.bm_base.specs.RoundParts.{own_transfers}
use Rattle.bm_pending.specs.PendingMap.{PendingMap, capacity}
use Rattle.bm_pending.specs.TargetCounts.{count_at}

abbrev pub count_of : ℕ → List Transfer → ℕ
count_of b ts = length (filter (λ t. t.block == b) ts)

abbrev pub own : Part → List Transfer → List Transfer
own part ts = own_transfers part.index part.shards ts

-- the counts of these transfers, and the capacity for them
pub record HasCounted (part : Part) (start p : PendingMap) (es : List (ℕ × ℕ)) (xs : List Transfer) : Type 0 where
  pub map : p.map ≡ start.map
  pub capacities : (b : ℕ) → capacity start b ≤ capacity p b
  pub counts : (q : ℕ) → count_at es q ≡ count_of q (own part xs)
  pub places : (q : ℕ) → count_of q (own part xs) ≤ capacity p q

one_more : (q : ℕ) (xs : List Transfer) (t : Transfer) → count_of q (xs ++ t ∷ []) ≡ cond (t.block == q) (suc (count_of q xs)) (count_of q xs)
one_more q xs t = ap length (filter-append (λ (x : Transfer). x.block == q) xs (t ∷ [])) ∙ length-append (filter (λ x. x.block == q) xs) (filter (λ x. x.block == q) (t ∷ [])) ∙ by (t.block == q)
  where
    by : (u : Bool) → count_of q xs + length (cond u (t ∷ []) []) ≡ cond u (suc (count_of q xs)) (count_of q xs)
    by true = omega arith
    by false = omega arith

module _ (part : Part) (xs : List Transfer) (t : Transfer) where
  appended : own part (xs ++ t ∷ []) ≡ own part xs ++ cond (shard_of t.block part.shards == part.index) (t ∷ []) []
  appended = filter-append (λ (x : Transfer). shard_of x.block part.shards == part.index) xs (t ∷ [])

  module _ (start p : PendingMap) (es : List (ℕ × ℕ)) (h : HasCounted part start p es xs) where
    pub counted_own : (q : PendingMap) (fs : List (ℕ × ℕ)) (n : ℕ) → (shard_of t.block part.shards == part.index) ≡ true → q.map ≡ p.map → ((b : ℕ) → capacity p b ≤ capacity q b)
        → ((b : ℕ) → count_at fs b ≡ cond (nat_eq t.block b) (suc (count_at es b)) (count_at es b)) → n ≡ suc (count_at es t.block) → n ≤ capacity q t.block
        → HasCounted part start q fs (xs ++ t ∷ [])
    counted_own q fs n is_own same grows counts number enough = record {
      map = same ∙ h.map;
      capacities = λ b. let a = h.capacities b in let c = grows b in omega (arith, a, c);
      counts = λ b. counts b ∙ ap (λ k. cond (nat_eq t.block b) (suc k) k) (h.counts b) ∙ sym (more b);
      places = λ b. subst (λ k. k ≤ capacity q b) (sym (more b)) (place b (nat_eq t.block b) refl);
    }
      where
        more : (b : ℕ) → count_of b (own part (xs ++ t ∷ [])) ≡ cond (t.block == b) (suc (count_of b (own part xs))) (count_of b (own part xs))
        more b = ap (count_of b) (appended ∙ ap (λ u. own part xs ++ cond u (t ∷ []) []) is_own) ∙ one_more b (own part xs) t

        place : (b : ℕ) (u : Bool) → nat_eq t.block b ≡ u → cond u (suc (count_of b (own part xs))) (count_of b (own part xs)) ≤ capacity q b
        place b true e =
            let same_block : t.block ≡ b = eqb-true t.block b e in
            subst (λ x. suc (count_of x (own part xs)) ≤ capacity q x) same_block (let k = h.counts t.block in omega (arith, k, number, enough))
        place b false e = let a = h.places b in let c = grows b in omega (arith, a, c)

    pub counted_other : (shard_of t.block part.shards == part.index) ≡ false → HasCounted part start p es (xs ++ t ∷ [])
    counted_other other =
        let same : own part (xs ++ t ∷ []) ≡ own part xs = appended ∙ ap (λ u. own part xs ++ cond u (t ∷ []) []) other ∙ nothing (own part xs) in
        record {
          map = h.map;
          capacities = h.capacities;
          counts = λ q. h.counts q ∙ ap (count_of q) (sym same);
          places = λ q. subst (λ ys. count_of q ys ≤ capacity p q) (sym same) (h.places q);
        }
      where
        nothing : (ys : List Transfer) → ys ++ [] ≡ ys
        nothing [] = refl
        nothing (y ∷ ys) = ap (λ zs. y ∷ zs) (nothing ys)

-- no more are counted than there are
pub few_counted : (part : Part) (q : ℕ) (xs : List Transfer) → count_of q (own part xs) ≤ length xs
few_counted part q xs =
    let a = shorter (λ (t : Transfer). t.block == q) (own part xs) in
    let b = shorter (λ (t : Transfer). shard_of t.block part.shards == part.index) xs in
    omega (arith, a, b)
  where
    shorter : (p : Transfer → Bool) (ys : List Transfer) → length (filter p ys) ≤ length ys
    shorter p [] = omega arith
    shorter p (y ∷ ys) = let rest = shorter p ys in elim (p y) as (λ u. length (cond u (y ∷ filter p ys) (filter p ys)) ≤ suc (length ys)) [
      | true ↦ omega (arith, rest)
      | false ↦ omega (arith, rest)
    ]

pub length-take : (n : ℕ) (xs : List Transfer) → length (take n xs) ≤ length xs
length-take zero xs = omega arith
length-take (suc n) [] = omega arith
length-take (suc n) (x ∷ xs) = let rest = length-take n xs in omega (arith, rest)
