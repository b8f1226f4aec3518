-- Each delete has a lawful reason, and a round leaves the wanted live replicas, or all there are.
use Rattle.std.specs.Prelude.{◌≡◌, ◌↔◌, ℕ, ◌+◌, ◌-◌, ◌≤◌, ◌⊎◌, Bool, true, false, not, ◌&&◌, ◌==◌, nat_le, if◌then◌else◌, List, [], ◌∷◌, filter, length, Option, Some, None, option_map}
use Rattle.std.specs.Option.{option_map_or}
use Rattle.std.proofs.Common.{cond, refl, sym, ap, ◌∙◌, arith, inl, inr}
use Rattle.std.proofs.lemmas.Bool.{leb-true, false≢true, true≢false, or_left, not-true, or_right}
use Rattle.bm_base.specs.declared.replica.ReplicaId.{ReplicaId}
use Rattle.bm_base.specs.declared.replica.Tag.{Tag}
use Rattle.bm_base.specs.declared.replica.Tag.TheVariants.{Good, Stale, Bad, Stray}
use Rattle.bm_base.specs.declared.replica.Marks.{Marks}
use Rattle.bm_base.specs.declared.replica.BlockInfo.{BlockInfo}
use Rattle.bm_base.specs.Words.{get, State, replica_at, has, is_usable, is_live_on, is_good, is_stray, is_corrupt, is_draining, has_enough_live, storages_where, state_after_expiry, state_at_choice, without_expired, without_unordered_excess, with_surplus_marked, excess_in, excess_of, excess_among}
use Rattle.bm_base.specs.Promises.Lawful.{IsOrderly}
use Rattle.bm_base.proofs.MapLaws.{get-revise}
use Rattle.bm_base.specs.Promises.NextRound.{unmarked, live_unmarked, live_marked, live_after, drained_unmarked}
use Rattle.laws_of_rounds.specs.Deletes.{MayBeDeleted}
use Rattle.std.proofs.lemmas.Option.{same_Some}
use Rattle.bm_base.proofs.ListTests.{has_filter, same_again, and_first, and_second}
use Rattle.bm_base.proofs.Membership.{has_where}
use Rattle.laws_of_states.proofs.Surpluses.{kept_of, chosen_among}
use Rattle.laws_of_states.proofs.MarkedReplicas.{marked_unmarked, marked_count, marked_is, after_marked, excess_known, unordered_dropped}
use Rattle.laws_of_states.proofs.RoundCommands.{IsTested, deleted_is}
use Rattle.laws_of_states.proofs.LiveAfterRound.{deleted_marks, marks_before, marks_started, remarked_excess, remarked, remarked_ordered, remarked_tag, surplus_of, weaker_kind}
use Rattle.laws_of_states.proofs.LawfulRounds.{cleared_excess}

pub may_be_deleted : (M : State) (q : ReplicaId) → IsTested M q → MayBeDeleted M q
may_be_deleted M q h =
    let is = deleted_is M q h in
    let marks = deleted_marks M q is.0 is.2 in
    record { marks = is.0; is_there = is.1; not_ordered = marks.0; kind = weaker_kind is.0 (has_enough_live M.cluster (state_at_choice M).holdings q.block) marks.1 }

pub not_ordered : (M : State) (q : ReplicaId) → IsTested M q → (m : Marks) × (get M.holdings.replicas q ≡ Some m) × (m.ordered ≡ false)
not_ordered M q h =
    let is = deleted_is M q h in
    let was = marks_before M q is.0 is.1 in
    (was.0, was.1, sym (remarked_ordered (surplus_of M q.block) q.storage was.0) ∙ ap (λ m. m.ordered) was.2 ∙ (deleted_marks M q is.0 is.2).0)

-- a block with enough live replicas is known, and at least its wanted number is live
enough_known : (M : State) (b : ℕ) → has_enough_live M.cluster (state_at_choice M).holdings b ≡ true
    → (i : BlockInfo) × (get M.holdings.blocks b ≡ Some i) × (i.repl ≤ length (live_marked M b))
unfolding has_enough_live state_at_choice state_after_expiry with_surplus_marked without_expired without_unordered_excess
enough_known M b e = by_info (get M.holdings.blocks b) refl e
  where
    by_info : (o : Option BlockInfo) → get M.holdings.blocks b ≡ o → option_map_or (λ x. nat_le x.repl (length (live_marked M b))) o false ≡ true
        → (i : BlockInfo) × (get M.holdings.blocks b ≡ Some i) × (i.repl ≤ length (live_marked M b))
    by_info None is f = absurd (false≢true f)
    by_info (Some i) is f = (i, is, leb-true i.repl (length (live_marked M b)) f)

-- Replicas that are chosen as surplus are live.

pub none_unknown : (M : State) (b : ℕ) → get M.holdings.blocks b ≡ None → surplus_of M b ≡ []
unfolding excess_in state_after_expiry without_expired without_unordered_excess
none_unknown M b e = ap (λ j. option_map_or (λ x. excess_of M.cluster (live_unmarked M b) x.repl) j []) e

pub surplus_live : (M : State) (b s : ℕ) → has (surplus_of M b) s ≡ true → has (live_unmarked M b) s ≡ true
surplus_live M b s h = by_info (get M.holdings.blocks b) refl
  where
    by_info : (o : Option BlockInfo) → get M.holdings.blocks b ≡ o → has (live_unmarked M b) s ≡ true
    by_info None e = absurd (false≢true (sym (ap (λ xs. has xs s) (none_unknown M b e)) ∙ h))
    by_info (Some i) e =
        chosen_among M.cluster (length (live_unmarked M b) - i.repl) (live_unmarked M b) s (sym (ap (λ xs. has xs s) (excess_known M b i e)) ∙ h)

pub marks_unmarked : (M : State) (q : ReplicaId) → get (unmarked M).holdings.replicas q ≡ option_map unordered_dropped (get M.holdings.replicas q)
unfolding state_after_expiry without_expired without_unordered_excess
marks_unmarked M q = get-revise M.holdings.replicas (λ _ m. unordered_dropped m) q

dropped_good : (o : Bool) (m : Marks) → is_usable (if o then m else record m { excess = false }) ≡ true → is_good m.tag ≡ true
dropped_good true m e = and_first (is_good m.tag) (not m.excess) e
dropped_good false m e = and_first (is_good m.tag) true e

pub surplus_good : (M : State) (b s : ℕ) (n : Marks) → get M.holdings.replicas (replica_at b s) ≡ Some n → has (surplus_of M b) s ≡ true → is_good n.tag ≡ true
surplus_good M b s n found h =
    dropped_good n.ordered n
    (and_first (is_usable (unordered_dropped n)) (not (is_draining M.cluster s))
    (sym (ap (λ o. option_map_or (is_live_on M.cluster s) o false) (marks_unmarked M (replica_at b s) ∙ ap (option_map unordered_dropped) found))
    ∙ sym (has_where (is_live_on M.cluster) (unmarked M).holdings b s) ∙ surplus_live M b s h))

-- in a lawful state, a replica that is in excess once a round has marked is good
excess_good : (M : State) (q : ReplicaId) (n : Marks) → IsOrderly M → get M.holdings.replicas q ≡ Some n → (remarked (surplus_of M q.block) q.storage n).excess ≡ true → is_good n.tag ≡ true
excess_good M q n lawful found e = by_choice (has (surplus_of M q.block) q.storage) refl e
  where
    by_choice : (c : Bool) → has (surplus_of M q.block) q.storage ≡ c → (if c then record (unordered_dropped n) { excess = true } else unordered_dropped n).excess ≡ true → is_good n.tag ≡ true
    by_choice true h f = surplus_good M q.block q.storage n found h
    by_choice false h f = lawful.holdings.excess_is_good q n found (cleared_excess n.ordered n f)

corrupt_only : (tag : Tag) (excess enough : Bool) → is_corrupt tag ≡ true → (excess ≡ true → is_good tag ≡ true)
    → (is_stray tag ≡ true) ⊎ ((excess ≡ true) ⊎ ((is_corrupt tag ≡ true) × (enough ≡ true))) → enough ≡ true
corrupt_only Good excess enough c g h = absurd (false≢true c)
corrupt_only Stray excess enough c g h = absurd (false≢true c)
corrupt_only Stale excess enough c g (inl h) = absurd (false≢true h)
corrupt_only Stale excess enough c g (inr (inl h)) = absurd (false≢true (g h))
corrupt_only Stale excess enough c g (inr (inr h)) = h.1
corrupt_only Bad excess enough c g (inl h) = absurd (false≢true h)
corrupt_only Bad excess enough c g (inr (inl h)) = absurd (false≢true (g h))
corrupt_only Bad excess enough c g (inr (inr h)) = h.1

pub corrupt_waits : (M : State) (q : ReplicaId) (m : Marks) → IsOrderly M → IsTested M q → get (state_at_choice M).holdings.replicas q ≡ Some m → is_corrupt m.tag ≡ true
    → (i : BlockInfo) × (get M.holdings.blocks q.block ≡ Some i) × (i.repl ≤ length (live_marked M q.block))
corrupt_waits M q m lawful h found corrupt =
    let is = deleted_is M q h in
    let same : is.0 ≡ m = same_Some is.0 m (sym is.1 ∙ found) in
    let was = marks_before M q is.0 is.1 in
    let marks = deleted_marks M q is.0 is.2 in
    let good : is.0.excess ≡ true → is_good is.0.tag ≡ true =
    λ e. sym (ap is_good (sym (remarked_tag (surplus_of M q.block) q.storage was.0) ∙ ap (λ n. n.tag) was.2)) ∙ excess_good M q was.0 lawful was.1 (ap (λ n. n.excess) was.2 ∙ e) in
    enough_known M q.block
    (corrupt_only is.0.tag is.0.excess (has_enough_live M.cluster (state_at_choice M).holdings q.block) (ap (λ n. is_corrupt n.tag) same ∙ corrupt) good marks.1)

-- Counts of the surplus.

pub at_most : (M : State) (b : ℕ) (i : BlockInfo) → get M.holdings.blocks b ≡ Some i → length (live_marked M b) ≤ i.repl
at_most M b i known = let count = marked_count M b i known in omega (arith, count)

pub none_made_live : (M : State) (b s : ℕ) → has (live_marked M b) s ≡ true → has (live_unmarked M b) s ≡ true
none_made_live M b s h =
    and_second (not (has (surplus_of M b) s)) (has (live_unmarked M b) s) (sym (ap (λ xs. has xs s) (marked_unmarked M b) ∙ has_filter (λ z. not (has (surplus_of M b) z)) (live_unmarked M b) s) ∙ h)

-- those that pass a test and those that do not add up to all
parts : (p : ℕ → Bool) (xs : List ℕ) → length (filter p xs) + length (filter (λ x. not (p x)) xs) ≡ length xs
parts p [] = omega arith
parts p (x ∷ xs) =
    let rest = parts p xs in
    elim (p x) as (λ b. length (cond b (x ∷ filter p xs) (filter p xs)) + length (cond (not b) (x ∷ filter (λ y. not (p y)) xs) (filter (λ y. not (p y)) xs)) ≡ length (x ∷ xs)) [
      | true ↦ omega (arith, rest)
      | false ↦ omega (arith, rest)
    ]

-- two tests that agree on the numbers of a list filter it alike
pub filter_same_among : (p q : ℕ → Bool) (xs : List ℕ) → ((x : ℕ) → has xs x ≡ true → p x ≡ q x) → filter p xs ≡ filter q xs
filter_same_among p q [] f = refl
filter_same_among p q (x ∷ xs) f =
    ap (λ ys. cond (p x) (x ∷ ys) ys) (filter_same_among p q xs (λ y h. f y (or_right (x == y) (has xs y) h)))
    ∙ ap (λ b. cond b (x ∷ filter q xs) (filter q xs)) (f x (or_left (x == x) (has xs x) (same_again x)))

pub surplus_count : (M : State) (b : ℕ) (i : BlockInfo) → get M.holdings.blocks b ≡ Some i
    → length (filter (λ s. not (has (live_marked M b) s)) (live_unmarked M b)) ≡ length (live_unmarked M b) - i.repl
surplus_count M b i known =
    let count = marked_count M b i known in
    let all = parts (λ s. has (live_marked M b) s) (live_unmarked M b) in
    let kept : filter (λ s. has (live_marked M b) s) (live_unmarked M b) ≡ live_marked M b =
    filter_same_among (λ s. has (live_marked M b) s) (λ s. not (has (surplus_of M b) s)) (live_unmarked M b)
    (λ s h. ap (λ xs. has xs s) (marked_unmarked M b) ∙ has_filter (λ z. not (has (surplus_of M b) z)) (live_unmarked M b) s ∙ ap (λ t. not (has (surplus_of M b) s) && t) h
    ∙ (elim (not (has (surplus_of M b) s)) as (λ t. (t && true) ≡ t) [ true ↦ refl | false ↦ refl ]))
    ∙ sym (marked_unmarked M b) in
    let long = ap length kept in
    omega (arith, count, all, long)

pub leaves_enough : (M : State) (b : ℕ) (i : BlockInfo) → get M.holdings.blocks b ≡ Some i
    → (i.repl ≤ length (live_unmarked M b) → length (live_after M b) ≡ i.repl) × (length (live_unmarked M b) ≤ i.repl → live_after M b ≡ live_unmarked M b)
leaves_enough M b i known =
    let count = marked_count M b i known in
    let after = ap length (after_marked M b) in (
      λ h. omega (arith, count, after, h),
      λ h. after_marked M b ∙ marked_is M b i known
          ∙ ap (λ k. kept_of (excess_among M.cluster k (live_unmarked M b)) (live_unmarked M b)) (no_surplus (length (live_unmarked M b)) i.repl h) ∙ all_kept (live_unmarked M b),
    )
  where
    no_surplus : (n k : ℕ) → n ≤ k → n - k ≡ 0
    no_surplus n k h = omega arith

    all_kept : (xs : List ℕ) → kept_of [] xs ≡ xs
    all_kept [] = refl
    all_kept (x ∷ xs) = ap (λ ys. x ∷ ys) (all_kept xs)

-- Marks.

excess_stays : (c o : Bool) (m : Marks) → o ≡ true → m.excess ≡ true
    → (if c then record (if o then m else record m { excess = false }) { excess = true } else if o then m else record m { excess = false }).excess ≡ true
excess_stays true o m e f = refl
excess_stays false true m e f = f
excess_stays false false m e f = absurd (false≢true e)

pub ordered_stays_excess : (M : State) (q : ReplicaId) (m : Marks) → get M.holdings.replicas q ≡ Some m → m.ordered ≡ true → m.excess ≡ true
    → (n : Marks) × (get (state_at_choice M).holdings.replicas q ≡ Some n) × (n.excess ≡ true)
ordered_stays_excess M q m found ordered excess = (
  remarked (surplus_of M q.block) q.storage m,
  marks_started M q ∙ ap (option_map (remarked (surplus_of M q.block) q.storage)) found,
  excess_stays (has (surplus_of M q.block) q.storage) m.ordered m ordered excess,
)

pub other_is_new : (M : State) (q : ReplicaId) (n : Marks) → get (state_at_choice M).holdings.replicas q ≡ Some n → n.ordered ≡ false → n.excess ≡ true
    → (has (live_unmarked M q.block) q.storage ≡ true) × (has (live_marked M q.block) q.storage ≡ false)
other_is_new M q n found unordered excess =
    let was = marks_before M q n found in
    let chosen : has (surplus_of M q.block) q.storage ≡ true =
    remarked_excess (surplus_of M q.block) q.storage was.0 (sym (remarked_ordered (surplus_of M q.block) q.storage was.0) ∙ ap (λ m. m.ordered) was.2 ∙ unordered) (ap (λ m. m.excess) was.2 ∙ excess) in (
      surplus_live M q.block q.storage chosen,
      ap (λ xs. has xs q.storage) (marked_unmarked M q.block) ∙ has_filter (λ z. not (has (surplus_of M q.block) z)) (live_unmarked M q.block) q.storage
          ∙ ap (λ t. not t && has (live_unmarked M q.block) q.storage) chosen,
    )

counts_by : (t : Tag) (x o : Bool) → (is_good t && not (if o then x else false)) ≡ true → (t ≡ Good) × ((x && o) ≡ false)
counts_by Good true true e = absurd (false≢true e)
counts_by Good true false e = (refl, refl)
counts_by Good false o e = (refl, refl)
counts_by Stale x o e = absurd (false≢true e)
counts_by Bad x o e = absurd (false≢true e)
counts_by Stray x o e = absurd (false≢true e)

counted_by : (t : Tag) (x o : Bool) → t ≡ Good → (x && o) ≡ false → (is_good t && not (if o then x else false)) ≡ true
counted_by t x o good e = ap (λ u. is_good u && not (if o then x else false)) good ∙ of_marks x o e
  where
    of_marks : (y p : Bool) → (y && p) ≡ false → (true && not (if p then y else false)) ≡ true
    of_marks true true f = absurd (true≢false f)
    of_marks true false f = refl
    of_marks false true f = refl
    of_marks false false f = refl

dropped_is : (o : Bool) (m : Marks) → is_usable (if o then m else record m { excess = false }) ≡ (is_good m.tag && not (if o then m.excess else false))
dropped_is true m = refl
dropped_is false m = refl

-- the replicas that count before a round marks, with a test of the storage in addition
before_where : (on : ℕ → Bool) (M : State) (b s : ℕ)
    → has (storages_where (λ t m. is_usable m && on t) (unmarked M).holdings b) s
    ≡ option_map_or (λ m. (is_good m.tag && not (if m.ordered then m.excess else false)) && on s) (get M.holdings.replicas (replica_at b s)) false
before_where on M b s =
    has_where (λ t m. is_usable m && on t) (unmarked M).holdings b s ∙ ap (λ o. option_map_or (λ m. is_usable m && on s) o false) (marks_unmarked M (replica_at b s)) ∙ by_marks (get M.holdings.replicas (replica_at b s))
  where
    by_marks : (o : Option Marks)
        → option_map_or (λ m. is_usable m && on s) (option_map unordered_dropped o) false ≡ option_map_or (λ m. (is_good m.tag && not (if m.ordered then m.excess else false)) && on s) o false
    by_marks None = refl
    by_marks (Some m) = ap (λ u. u && on s) (dropped_is m.ordered m)

before_is : (on : ℕ → Bool) (M : State) (b s : ℕ)
    → (has (storages_where (λ t m. is_usable m && on t) (unmarked M).holdings b) s ≡ true)
    ↔ ((m : Marks) × (get M.holdings.replicas (replica_at b s) ≡ Some m) × (m.tag ≡ Good) × ((m.excess && m.ordered) ≡ false) × (on s ≡ true))
before_is on M b s = (
  λ h. found (on s) (get M.holdings.replicas (replica_at b s)) (sym (before_where on M b s) ∙ h),
  λ h. before_where on M b s ∙ ap (λ o. option_map_or (λ m. (is_good m.tag && not (if m.ordered then m.excess else false)) && on s) o false) h.1
      ∙ ap (λ u. u && on s) (counted_by h.0.tag h.0.excess h.0.ordered h.2 h.3) ∙ h.4,
)
  where
    found : (d : Bool) (o : Option Marks) → option_map_or (λ m. (is_good m.tag && not (if m.ordered then m.excess else false)) && d) o false ≡ true
        → (m : Marks) × (o ≡ Some m) × (m.tag ≡ Good) × ((m.excess && m.ordered) ≡ false) × (d ≡ true)
    found d None e = absurd (false≢true e)
    found d (Some m) e =
        let counts = is_good m.tag && not (if m.ordered then m.excess else false) in
        let is = counts_by m.tag m.excess m.ordered (and_first counts d e) in
        (m, refl, is.0, is.1, and_second counts d e)

pub live_before_is : (M : State) (b s : ℕ)
    → (has (live_unmarked M b) s ≡ true)
    ↔ ((m : Marks) × (get M.holdings.replicas (replica_at b s) ≡ Some m) × (m.tag ≡ Good) × ((m.excess && m.ordered) ≡ false) × (is_draining M.cluster s ≡ false))
live_before_is M b s =
    let is = before_is (λ t. not (is_draining M.cluster t)) M b s in (
      λ h. let m = is.0 h in (m.0, m.1, m.2, m.3, not-true (is_draining M.cluster s) m.4),
      λ h. is.1 (h.0, h.1, h.2, h.3, ap not h.4),
    )

pub drained_before_is : (M : State) (b s : ℕ)
    → (has (drained_unmarked M b) s ≡ true)
    ↔ ((m : Marks) × (get M.holdings.replicas (replica_at b s) ≡ Some m) × (m.tag ≡ Good) × ((m.excess && m.ordered) ≡ false) × (is_draining M.cluster s ≡ true))
drained_before_is M b s = before_is (is_draining M.cluster) M b s
