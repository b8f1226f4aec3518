-- Entering named blocks one after another enters and counts all of them.
use Rattle.std.proofs.Common.{◌≡◌, ◌≢◌, map, inl, inr, ℕ, suc, ◌+◌, ◌≤◌, Bool, true, false, cond, not, ◌||◌, List, [], ◌∷◌, ◌++◌, Option, Some, None, is_some, IsSome, refl, subst, sym, ap, ◌∙◌, arith, add-one, length-append}
use Rattle.std.specs.Option.{option_and_then}
use Rattle.std.specs.Map.{lookup}
use Rattle.std.specs.Prelude.{nat_eq}
use Rattle.std.proofs.lemmas.Bool.{false≢true}
use Rattle.bm_base.specs.declared.replica.Marks.{Marks}
use Rattle.bm_base.specs.declared.replica.BlockInfo.{BlockInfo}
use Rattle.bm_base.specs.Words.{Map, by_number, get, insert, len, contains_key, Cluster, replica_at}
use Rattle.bm_maps.specs.SlotLists.{IsMember, without}
use Rattle.bm_arena.specs.Contents.{Contents, block_at, slot_of, marks_at, saturating_next}
use Rattle.bm_report.specs.declared.types.ReportedSlot.{ReportedSlot}
use Rattle.bm_report.specs.declared.report_counts.ReportCounts.{ReportCounts}
use Rattle.bm_arena.specs.HeldMaps.{replicas_of, blocks_of, info_at}
use Rattle.bm_report.specs.DuringReport.{entered_at, entered_one, entered_all, fresh, marks_during_report, is_excess_good, behind, without_all, saturating_sum, AreAtSlots, HaveCapacity, KeepsRest, IsEntered, IsCounted, IsOncePerNode, IsExcessGood, counts_after_move, counts_after_link, slot_in}
use Rattle.bm_arena.proofs.HeldReplicas.{get-blocks_of}
use Rattle.bm_report.proofs.Frames.{framed-none, framed-chain}
use Rattle.bm_report.proofs.Maps.{Held, get-here, put-known, some_is, len-put_known}
use Rattle.bm_report.proofs.OncePerNode.{excess_good-entered_at}

pub entered_one_is : (C : Cluster) (B : Map by_number BlockInfo) (s : ℕ) (n : ReportedSlot) (K : Held) → entered_one C B s n K ≡ entered_at C K (replica_at n.id s) (marks_during_report (get B n.id) (get K (replica_at n.id s)) n.stamp)
unfolding entered_one
entered_one_is C B s n K = refl

-- the marks that a block gets, by its slot
module _ (C : Cluster) (a : Contents) (s : ℕ) (n : ReportedSlot) (here : slot_of a n.id ≡ Some n.slot) (was : Option Marks) (was_is : was ≡ marks_at a n.slot s) (marks : Marks)
    (marks_is : marks ≡ marks_during_report (info_at a n.slot) was n.stamp) where
  got : get (replicas_of a) (replica_at n.id s) ≡ was
  got = get-here a n.id n.slot s here ∙ sym was_is

  known_info : get (blocks_of a) n.id ≡ info_at a n.slot
  known_info = get-blocks_of a n.id ∙ ap (λ o. option_and_then (λ k. info_at a k) o) here

  pub entered_one_as : entered_at C (replicas_of a) (replica_at n.id s) marks ≡ entered_one C (blocks_of a) s n (replicas_of a)
  entered_one_as =
      let k = sym known_info in
      let g = sym got in
      ap (entered_at C (replicas_of a) (replica_at n.id s)) (marks_is ∙ (λ i. marks_during_report (k i) (g i) n.stamp))
      ∙ sym (entered_one_is C (blocks_of a) s n (replicas_of a))

  pub got_now : get (replicas_of a) (replica_at n.id s) ≡ was
  got_now = got

fresh_known : (b : Bool) → b ≡ true → cond b 0 1 + 0 ≡ 0
fresh_known true e = refl
fresh_known false e = cc

fresh_new : (b : Bool) → b ≡ false → cond b 0 1 + 0 ≡ 1
fresh_new true e = cc
fresh_new false e = refl

both_good : (b t : Bool) → (b || not t) ≡ false → (b ≡ false) × (t ≡ true)
both_good true t e = absurd (false≢true (sym e))
both_good false true e = (refl, refl)
both_good false false e = absurd (false≢true (sym e))

-- one block is entered
module _ (C : Cluster) (a c : Contents) (s : ℕ) (n : ReportedSlot) (here : slot_of a n.id ≡ Some n.slot) (was : Option Marks) (was_is : was ≡ marks_at a n.slot s) (marks : Marks)
    (marks_is : marks ≡ marks_during_report (info_at a n.slot) was n.stamp) (behind_is : behind c s ≡ without n.slot (behind a s)) (frame : KeepsRest s a c) where
  module _ (replicas : replicas_of c ≡ entered_at C (replicas_of a) (replica_at n.id s) marks) where
    pub entered_new : ((slot : ℕ) → slot ≢ n.slot → block_at c slot ≡ block_at a slot) → IsEntered C s (n ∷ []) a c
    entered_new others = record { replicas = replicas ∙ entered_one_as C a s n here was was_is marks marks_is; behind = behind_is; frame = frame; others = λ x out. others x (λ same. out (inl same)) }

    stays_good : (b t : Bool) → t ≡ is_excess_good marks → (b || not t) ≡ false → (b ≡ false) × (IsExcessGood (replicas_of a) → IsExcessGood (replicas_of c))
    stays_good b t is e =
        let both = both_good b t e in
        let P : Held → Type 0 = λ K. IsExcessGood K in
        (both.0, λ good. subst P (sym replicas) (excess_good-entered_at C (replicas_of a) (replica_at n.id s) marks (sym is ∙ both.1) good))

    pub counted_new : (t u : ReportCounts) (left_sibling is_good_too : Bool) → was ≡ None → is_good_too ≡ is_excess_good marks → u ≡ counts_after_link t left_sibling is_good_too
        → c.steps ≡ saturating_sum (cond left_sibling 2 1) a.steps → cond left_sibling 1 0 + len (replicas_of c) ≡ len (replicas_of a) + 1 → IsCounted C s (n ∷ []) a c t u
    counted_new t u left_sibling is_good_too none good_is u_is steps lengths =
        let P : ReportCounts → Type 0 = λ x. IsCounted C s (n ∷ []) a c t x in
        subst P (sym u_is)
        (record {
          adds_steps = λ k start. steps ∙ ap (saturating_sum (cond left_sibling 2 1)) start ∙ more left_sibling t.steps k;
          steps = sums left_sibling;
          added = ap (λ x. t.added + x) (sym (fresh_new (contains_key (replicas_of a) (replica_at n.id s)) absent));
          removed = omega (arith, lengths);
          few_added = omega arith;
          few_removed = few left_sibling;
          good = stays_good t.has_invalid_excess is_good_too good_is;
        })
      where
        absent : contains_key (replicas_of a) (replica_at n.id s) ≡ false
        absent = ap is_some (got_now C a s n here was was_is marks marks_is ∙ none)

        more : (b : Bool) (x k : ℕ) → saturating_sum (cond b 2 1) (saturating_sum x k) ≡ saturating_sum (x + cond b 2 1) k
        more true x k = ap (λ y. saturating_sum y k) (sym (two x))
          where
            two : (x : ℕ) → x + 2 ≡ suc (suc x)
            two x = omega arith
        more false x k = rw (add-one x) refl

        sums : (b : Bool) → t.steps + cond b 2 1 + t.removed ≡ t.steps + (t.removed + cond b 1 0) + 1
        sums true = omega arith
        sums false = omega arith

        few : (b : Bool) → t.removed + cond b 1 0 ≤ t.removed + 1
        few true = omega arith
        few false = omega arith

  module _ (old : Marks) (was_old : was ≡ Some old) (once : IsOncePerNode C (replicas_of a)) (replicas : replicas_of c ≡ insert (replicas_of a) (replica_at n.id s) marks) where
    there : IsSome (get (replicas_of a) (replica_at n.id s))
    there = some_is (get (replicas_of a) (replica_at n.id s)) old (got_now C a s n here was was_is marks marks_is ∙ was_old)

    replicas_too : replicas_of c ≡ entered_at C (replicas_of a) (replica_at n.id s) marks
    replicas_too = replicas ∙ put-known C (replicas_of a) n.id s marks once there

    pub entered_known : ((slot : ℕ) → slot ≢ n.slot → block_at c slot ≡ block_at a slot) → IsEntered C s (n ∷ []) a c
    entered_known = entered_new replicas_too

    pub counted_known : (t u : ReportCounts) (is_good_too : Bool) → is_good_too ≡ is_excess_good marks → u ≡ counts_after_move t is_good_too → c.steps ≡ saturating_next a.steps → IsCounted C s (n ∷ []) a c t u
    counted_known t u is_good_too good_is u_is steps =
        let P : ReportCounts → Type 0 = λ x. IsCounted C s (n ∷ []) a c t x in
        let lengths : len (replicas_of c) ≡ len (replicas_of a) = ap len replicas ∙ len-put_known (replicas_of a) (replica_at n.id s) marks there in
        subst P (sym u_is)
        (record {
          adds_steps = λ k start. steps ∙ ap saturating_next start ∙ ap (λ y. saturating_sum y k) (sym (add-one t.steps));
          steps = omega arith;
          added = omega (arith, fresh_known (contains_key (replicas_of a) (replica_at n.id s)) there);
          removed = omega (arith, lengths);
          few_added = omega arith;
          few_removed = omega arith;
          good = stays_good replicas_too t.has_invalid_excess is_good_too good_is;
        })

-- no block is entered
pub entered-none : (C : Cluster) (s : ℕ) (a : Contents) → IsEntered C s [] a a
entered-none C s a = record { replicas = refl; behind = refl; frame = framed-none s a; others = λ x out. refl }

pub counted-none : (C : Cluster) (s : ℕ) (a : Contents) (t : ReportCounts) → IsCounted C s [] a a t t
counted-none C s a t = record {
  adds_steps = λ k start. start;
  steps = omega arith;
  added = omega arith;
  removed = refl;
  few_added = omega arith;
  few_removed = omega arith;
  good = λ e. (e, λ good. good);
}

-- entering two lists one after the other
entered_all-append : (C : Cluster) (B : Map by_number BlockInfo) (s : ℕ) (xs ys : List ReportedSlot) (K : Held) → entered_all C B s (xs ++ ys) K ≡ entered_all C B s ys (entered_all C B s xs K)
entered_all-append C B s [] ys K = refl
entered_all-append C B s (x ∷ xs) ys K = entered_all-append C B s xs ys (entered_one C B s x K)

fresh-append : (C : Cluster) (B : Map by_number BlockInfo) (s : ℕ) (xs ys : List ReportedSlot) (K : Held) → fresh C B s (xs ++ ys) K ≡ fresh C B s xs K + fresh C B s ys (entered_all C B s xs K)
fresh-append C B s [] ys K = omega arith
fresh-append C B s (x ∷ xs) ys K = let rest = fresh-append C B s xs ys (entered_one C B s x K) in omega (arith, rest)

without_all-append : (xs ys : List ReportedSlot) (l : List ℕ) → without_all (xs ++ ys) l ≡ without_all ys (without_all xs l)
without_all-append [] ys l = refl
without_all-append (x ∷ xs) ys l = without_all-append xs ys (without x.slot l)

module _ (C : Cluster) (s : ℕ) (xs ys : List ReportedSlot) (a b c : Contents) (f : IsEntered C s xs a b) where
  pub entered-append : IsEntered C s ys b c → IsEntered C s (xs ++ ys) a c
  entered-append g = record {
    replicas = g.replicas ∙ (λ i. entered_all C (f.frame.blocks i) s ys (f.replicas i)) ∙ sym (entered_all-append C (blocks_of a) s xs ys (replicas_of a));
    behind = g.behind ∙ ap (without_all ys) f.behind ∙ sym (without_all-append xs ys (behind a s));
    frame = framed-chain s a b c f.frame g.frame;
    others = λ x out. g.others x (λ m. out (in_back x xs m)) ∙ f.others x (λ m. out (in_front x xs m));
  }
    where
      in_front : (x : ℕ) (ns : List ReportedSlot) → IsMember x (map slot_in ns) → IsMember x (map slot_in (ns ++ ys))
      in_front x [] m = absurd m
      in_front x (n ∷ ns) (inl same) = inl same
      in_front x (n ∷ ns) (inr m) = inr (in_front x ns m)

      in_back : (x : ℕ) (ns : List ReportedSlot) → IsMember x (map slot_in ys) → IsMember x (map slot_in (ns ++ ys))
      in_back x [] m = m
      in_back x (n ∷ ns) m = inr (in_back x ns m)

  pub counted-append : (t u v : ReportCounts) → IsCounted C s xs a b t u → IsCounted C s ys b c u v → IsCounted C s (xs ++ ys) a c t v
  counted-append t u v p q =
      let all = length-append xs ys in
      let both : fresh C (blocks_of b) s ys (replicas_of b) ≡ fresh C (blocks_of a) s ys (entered_all C (blocks_of a) s xs (replicas_of a)) = λ i. fresh C (f.frame.blocks i) s ys (f.replicas i) in
      record {
        adds_steps = λ k start. q.adds_steps k (p.adds_steps k start);
        steps = omega (arith, p.steps, q.steps, all);
        added = omega (arith, p.added, q.added, both, fresh-append C (blocks_of a) s xs ys (replicas_of a));
        removed = omega (arith, p.removed, q.removed);
        few_added = omega (arith, p.few_added, q.few_added, all);
        few_removed = omega (arith, p.few_removed, q.few_removed, all);
        good = λ e. let y = q.good e in let x = p.good y.0 in (x.0, λ good. y.1 (x.1 good));
      }

-- the remaining named blocks keep their slots
pub here-framed : (s : ℕ) (a b : Contents) (ns : List ReportedSlot) → KeepsRest s a b → AreAtSlots a ns → AreAtSlots b ns
here-framed s a b [] f h = tt
here-framed s a b (n ∷ ns) f h = (ap (λ l. lookup (nat_eq n.id) l) f.ids ∙ h.0, here-framed s a b ns f h.1)

pub capacity-framed : (s : ℕ) (a b : Contents) (ns : List ReportedSlot) → KeepsRest s a b → HaveCapacity a s ns → HaveCapacity b s ns
capacity-framed s a b [] f h = tt
capacity-framed s a b (n ∷ ns) f h = (λ none. f.capacity n.slot none (h.0 (f.absent n.slot none)), capacity-framed s a b ns f h.1)
