-- Badly distributed means 2 or more wanted, enough live, and all of them on one of several racks.
use Rattle.std.specs.Prelude.{◌≡◌, ℕ, ◌≤◌, ◌↔◌, Bool, true, false, ◌||◌, ◌&&◌, ◌*◌, ◌==◌, nat_lt, nat_le, List, [], ◌∷◌, map, filter_map, length, Option, Some, None, is_some, option_map, option_and_then}
use Rattle.std.specs.Option.{option_map_or}
use Rattle.std.proofs.Common.{cond, refl, sym, ap, ◌∙◌, arith}
use Rattle.std.proofs.lemmas.Bool.{eqb-true, lt-ltb, ltb-true, false≢true, true≢false, or_left}
use Rattle.std.proofs.lemmas.Bool.Decides.{nat_tests}
use Rattle.bm_base.specs.declared.replica.Level.TheVariants.{Highest, VeryUnderReplicated, UnderReplicated, BadlyDistributed, NoUsableReplica}
use Rattle.bm_base.specs.declared.replica.BlockInfo.{BlockInfo}
use Rattle.bm_base.specs.Words.{Map, by_number, get, entries, Cluster, State, replica_at, has, has_repeats, distinct, live, drained, is_live_on, racks, rack_of, node_of, is_multi_rack, level, level_of}
use Rattle.bm_base.specs.Promises.Lawful.{IsOrderly}
use Rattle.laws_of_rounds.specs.Levels.{AreOnOneRack, HasTwoRacks}
use Rattle.laws_of_rounds.proofs.Needs.{level_known}
use Rattle.std.proofs.lemmas.Option.{same_Some}
use Rattle.bm_base.proofs.ForEach.{each_any}
use Rattle.bm_base.proofs.ListTests.{any_map, same_again}
use Rattle.bm_base.proofs.Membership.{has_where}
use Rattle.bm_base.proofs.MapEntries.{each_entry}
use Rattle.bm_base.proofs.OneWish.{once_keys}
use Rattle.bm_base.proofs.Sets.{some_passing}
use Rattle.bm_base.proofs.Sets.{has_distinct, has_filter_map, rack_among}
use Rattle.laws_of_rounds.proofs.RequestedCopies.{badly_counted}
use Rattle.laws_of_rounds.proofs.NodeCommands.{among_map, has_among, passing_there}
use Rattle.bm_base.proofs.Options.{there}
use Rattle.laws_of_rounds.proofs.DeferredDeletes.{among_found}
use Rattle.laws_of_states.proofs.LiveAfterRound.{some_first}

-- Lists without repeats.

one_has : (xs : List ℕ) (a b : ℕ) → length xs ≤ 1 → has xs a ≡ true → has xs b ≡ true → a ≡ b
one_has [] a b h e f = absurd (false≢true e)
one_has (x ∷ []) a b h e f = sym (eqb-true x a (alone (x == a) e)) ∙ eqb-true x b (alone (x == b) f)
  where
    alone : (c : Bool) → (c || false) ≡ true → c ≡ true
    alone true g = refl
    alone false g = g
one_has (x ∷ y ∷ xs) a b h e f = absurd (omega (arith, h))

pub second_there : (x y : ℕ) (xs : List ℕ) → has (x ∷ y ∷ xs) y ≡ true
second_there x y xs = elim (x == y) as (λ c. (c || ((y == y) || has xs y)) ≡ true) [ true ↦ refl | false ↦ or_left (y == y) (has xs y) (same_again y) ]

pub two_apart : (x y : ℕ) (xs : List ℕ) → has_repeats (x ∷ y ∷ xs) ≡ false → x ≡ y → ⊥
two_apart x y xs once e = by_test (has (y ∷ xs) x) refl once
  where
    by_test : (c : Bool) → has (y ∷ xs) x ≡ c → (c || has_repeats (y ∷ xs)) ≡ false → ⊥
    by_test true f g = true≢false g
    by_test false f g = true≢false (sym (or_left (y == x) (has xs x) (ap (λ z. z == x) (sym e) ∙ same_again x)) ∙ f)

some_has : (xs : List ℕ) (a : ℕ) → has xs a ≡ true → 1 ≤ length xs
some_has [] a h = absurd (false≢true h)
some_has (x ∷ xs) a h = omega arith

one_of_all : (xs : List ℕ) → has_repeats xs ≡ false → ((a b : ℕ) → has xs a ≡ true → has xs b ≡ true → a ≡ b) → 1 ≤ length xs → length xs ≡ 1
one_of_all [] once all h = absurd (omega arith)
one_of_all (x ∷ []) once all h = omega arith
one_of_all (x ∷ y ∷ xs) once all h = absurd (two_apart x y xs once (all x y (or_left (x == x) (has (y ∷ xs) x) (same_again x)) (second_there x y xs)))

pub two_has : (xs : List ℕ) → has_repeats xs ≡ false → 2 ≤ length xs → (a : ℕ) × (b : ℕ) × (has xs a ≡ true) × (has xs b ≡ true) × (a ≡ b → ⊥)
two_has [] once h = absurd (omega arith)
two_has (x ∷ []) once h = absurd (omega (arith, h))
two_has (x ∷ y ∷ xs) once h = (x, y, or_left (x == x) (has (y ∷ xs) x) (same_again x), second_there x y xs, two_apart x y xs once)

two_of_apart : (xs : List ℕ) (a b : ℕ) → has xs a ≡ true → has xs b ≡ true → (a ≡ b → ⊥) → 2 ≤ length xs
two_of_apart [] a b e f apart = absurd (false≢true e)
two_of_apart (x ∷ []) a b e f apart = absurd (apart (one_has (x ∷ []) a b (omega arith) e f))
two_of_apart (x ∷ y ∷ xs) a b e f apart = omega arith

once_distinct : (xs : List ℕ) → has_repeats (distinct xs) ≡ false
unfolding distinct
once_distinct xs = once_keys _

-- Racks.

some_is : (f : ℕ → Option ℕ) (x r : ℕ) → option_map_or (λ y. y == r) (f x) false ≡ true → f x ≡ Some r
some_is f x r = elim (f x) as (λ o. option_map_or (λ y. y == r) o false ≡ true → o ≡ Some r) [
  | None ↦ λ e. absurd (false≢true e)
  | Some y ↦ λ e. ap Some (eqb-true y r e)
]

rack_from : (C : Cluster) (ss : List ℕ) (r : ℕ) → has (racks C ss) r ≡ true → (s : ℕ) × (has ss s ≡ true) × (rack_of C s ≡ Some r)
unfolding racks
rack_from C ss r h =
    let one = some_passing (λ x. option_map_or (λ y. y == r) (rack_of C x) false) ss (sym (has_filter_map (rack_of C) ss r) ∙ sym (has_distinct (filter_map (rack_of C) ss) r) ∙ h) in
    (one.0, one.1, some_is (rack_of C) one.0 r one.2)

once_racks : (C : Cluster) (ss : List ℕ) → has_repeats (racks C ss) ≡ false
unfolding racks
once_racks C ss = once_distinct (filter_map (rack_of C) ss)

module _ (C : Cluster) (ss : List ℕ) (known : (s : ℕ) → has ss s ≡ true → (r : ℕ) × (rack_of C s ≡ Some r)) where
  on_one : length (racks C ss) ≡ 1 → AreOnOneRack C ss
  on_one h s t at_s at_t =
      let r = known s at_s in
      let q = known t at_t in
      r.1 ∙ ap Some (one_has (racks C ss) r.0 q.0 (omega (arith, h)) (rack_among C ss s r.0 at_s r.1) (rack_among C ss t q.0 at_t q.1)) ∙ sym q.1

  one_on : AreOnOneRack C ss → (s : ℕ) → has ss s ≡ true → length (racks C ss) ≡ 1
  one_on all s at_s =
      one_of_all (racks C ss) (once_racks C ss)
      (λ r q at_r at_q. let x = rack_from C ss r at_r in let y = rack_from C ss q at_q in same_Some r q (sym x.2 ∙ all x.0 y.0 x.1 y.1 ∙ y.2))
      (some_has (racks C ss) (known s at_s).0 (rack_among C ss s (known s at_s).0 at_s (known s at_s).1))

-- The racks of the alive nodes.

rack_there : (m : Map by_number ℕ) (r : ℕ) → has (map (λ e. e.1) (entries m)) r ≡ true → (n : ℕ) × (get m n ≡ Some r)
rack_there m r h =
    let one = each_any (λ e. get m e.0 ≡ Some e.1) (λ e. e.1 == r) (entries m) (each_entry m) (sym (any_map (λ x. x == r) (λ (e : ℕ × ℕ). e.1) (entries m)) ∙ h) in
    (one.0.0, one.1 ∙ ap Some (eqb-true one.0.1 r one.2))

there_rack : (m : Map by_number ℕ) (n r : ℕ) → get m n ≡ Some r → has (map (λ e. e.1) (entries m)) r ≡ true
unfolding get entries
there_rack m n r e = has_among (map (λ (e : ℕ × ℕ). e.1) m.list) r (among_map (λ (e : ℕ × ℕ). e.1) m.list (n, r) (among_found by_number n r m.list e))

multi_two : (C : Cluster) → is_multi_rack C ≡ true → HasTwoRacks C
unfolding is_multi_rack
multi_two C h =
    let two = two_has (distinct (map (λ e. e.1) (entries C.nodes))) (once_distinct (map (λ e. e.1) (entries C.nodes))) (ltb-true 1 (length (distinct (map (λ e. e.1) (entries C.nodes)))) h) in
    let n = rack_there C.nodes two.0 (sym (has_distinct (map (λ e. e.1) (entries C.nodes)) two.0) ∙ two.2) in
    let k = rack_there C.nodes two.1 (sym (has_distinct (map (λ e. e.1) (entries C.nodes)) two.1) ∙ two.3) in
    (n.0, k.0, two.0, two.1, n.1, k.1, two.4)

two_multi : (C : Cluster) → HasTwoRacks C → is_multi_rack C ≡ true
unfolding is_multi_rack
two_multi C h =
    lt-ltb 1 (length (distinct (map (λ e. e.1) (entries C.nodes))))
    (two_of_apart (distinct (map (λ e. e.1) (entries C.nodes))) h.2 h.3
    (has_distinct (map (λ e. e.1) (entries C.nodes)) h.2 ∙ there_rack C.nodes h.0 h.2 h.4) (has_distinct (map (λ e. e.1) (entries C.nodes)) h.3 ∙ there_rack C.nodes h.1 h.3 h.5) h.6)

-- Levels.

counted_badly : (n d repl rs : ℕ) (multi : Bool) → 2 ≤ repl → repl ≤ n → rs ≡ 1 → multi ≡ true → level_of (record { live = n; drained = d; wanted = repl; racks = rs; multi_rack = multi }) ≡ Some BadlyDistributed
unfolding level_of
counted_badly n d repl rs multi a b c e = grind (arith, nat_tests)

badly_two : (n d repl rs : ℕ) (multi : Bool) → level_of (record { live = n; drained = d; wanted = repl; racks = rs; multi_rack = multi }) ≡ Some BadlyDistributed → (2 ≤ repl) × (multi ≡ true)
unfolding level_of
badly_two n d repl rs multi e = by_tests (nat_le repl n) (nat_lt 1 repl) refl (rs == 1) multi e
  where
    other : (a z b c : Bool) → Some (cond a (cond z NoUsableReplica Highest) (cond b Highest (cond c VeryUnderReplicated UnderReplicated))) ≡ Some BadlyDistributed → ⊥
    other true true b c e = cc
    other true false b c e = cc
    other false z true c e = cc
    other false z false true e = cc
    other false z false false e = cc

    by_tests : (a p : Bool) → nat_lt 1 repl ≡ p → (q r : Bool)
        → cond a (cond (p && q && r) (Some BadlyDistributed) None) (Some (cond (n == 0) (cond (d == 0) NoUsableReplica Highest) (cond (n == 1) Highest (cond (nat_lt (n * 3) repl) VeryUnderReplicated UnderReplicated)))) ≡ Some BadlyDistributed
        → (2 ≤ repl) × (r ≡ true)
    by_tests true true f true true e = (ltb-true 1 repl f, refl)
    by_tests true true f true false e = absurd (false≢true (ap is_some e))
    by_tests true true f false r e = absurd (false≢true (ap is_some e))
    by_tests true false f q r e = absurd (false≢true (ap is_some e))
    by_tests false p f q r e = absurd (other (n == 0) (d == 0) (n == 1) (nat_lt (n * 3) repl) e)

live_rack : (M : State) (b s : ℕ) → IsOrderly M → has (live M.cluster M.holdings b) s ≡ true → (r : ℕ) × (rack_of M.cluster s ≡ Some r)
unfolding rack_of node_of
live_rack M b s lawful h =
    let known = passing_there (is_live_on M.cluster s) (get M.holdings.replicas (replica_at b s)) (sym (has_where (is_live_on M.cluster) M.holdings b s) ∙ h) in
    let storage = there (get M.cluster.storages s) (lawful.holdings.stored (replica_at b s) known) in
    let node = there (get M.cluster.nodes storage.0.node) (lawful.cluster.alive s storage.0 storage.1) in
    (node.0, ap (λ o. option_and_then (λ n. get M.cluster.nodes n) (option_map (λ i. i.node) o)) storage.1 ∙ node.1)

pub level_three : (M : State) (b : ℕ) (i : BlockInfo) → IsOrderly M → get M.holdings.blocks b ≡ Some i
    → (level M.cluster M.holdings b ≡ Some BadlyDistributed)
    ↔ ((2 ≤ i.repl) × (i.repl ≤ length (live M.cluster M.holdings b)) × AreOnOneRack M.cluster (live M.cluster M.holdings b) × HasTwoRacks M.cluster)
level_three M b i lawful known =
    let ss : List ℕ = live M.cluster M.holdings b in
    let is = level_known M.cluster M.holdings b i known in
    let racked : (s : ℕ) → has ss s ≡ true → (r : ℕ) × (rack_of M.cluster s ≡ Some r) = λ s h. live_rack M b s lawful h in (
      λ e.
          let counted = badly_counted (length ss) (length (drained M.cluster M.holdings b)) i.repl (length (racks M.cluster ss)) (is_multi_rack M.cluster) (sym is ∙ e) in
          let two = badly_two (length ss) (length (drained M.cluster M.holdings b)) i.repl (length (racks M.cluster ss)) (is_multi_rack M.cluster) (sym is ∙ e) in
          (two.0, counted.0, on_one M.cluster ss racked (eqb-true (length (racks M.cluster ss)) 1 counted.1), multi_two M.cluster two.1),
      λ h.
          let wanted = h.0 in
          let enough = h.1 in
          let one = some_first ss (omega (arith, wanted, enough)) in
          is ∙ counted_badly (length ss) (length (drained M.cluster M.holdings b)) i.repl (length (racks M.cluster ss)) (is_multi_rack M.cluster) wanted enough (one_on M.cluster ss racked h.2 one.0 one.1) (two_multi M.cluster h.3),
    )
