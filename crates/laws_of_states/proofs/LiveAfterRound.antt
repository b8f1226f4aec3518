-- A block that loses a replica in a round keeps the requested number of live ones.
use Rattle.std.specs.Prelude.{◌≡◌, ℕ, zero, suc, ◌-◌, ◌≤◌, ◌⊎◌, Bool, true, false, not, ◌&&◌, ◌||◌, ◌==◌, nat_le, if◌then◌else◌, List, [], ◌∷◌, length, Some, None, option_map, is_some}
use Rattle.std.specs.Option.{option_map_or}
use Rattle.std.proofs.Common.{refl, sym, ap, subst, ◌∙◌, arith, inl, inr}
use Rattle.std.proofs.lemmas.Bool.{leb-true, false≢true, true≢false, or_left}
use Rattle.bm_base.specs.declared.replica.ReplicaId.{ReplicaId}
use Rattle.bm_base.specs.declared.replica.Tag.{Tag}
use Rattle.bm_base.specs.declared.replica.Tag.TheVariants.{Good, Stale, Bad, Stray}
use Rattle.bm_base.specs.declared.replica.Marks.{Marks}
use Rattle.bm_base.specs.declared.replica.BlockInfo.{BlockInfo}
use Rattle.bm_base.specs.Words.{get, Cluster, State, replica_at, has, is_usable, is_live_on, is_good, is_stray, is_corrupt, is_draining, has_enough_live, state_after_expiry, state_at_choice, without_expired, without_unordered_excess, with_surplus_marked, excess_in, excess_among, is_deletable}
use Rattle.bm_base.specs.Promises.Lawful.{IsOrderly}
use Rattle.bm_base.proofs.MapLaws.{get-revise}
use Rattle.bm_base.proofs.Options.{revised}
use Rattle.bm_base.specs.Promises.NextRound.{unmarked, live_unmarked, live_marked, live_after}
use Rattle.bm_base.proofs.ListTests.{and_first, same_again}
use Rattle.bm_base.proofs.Membership.{has_where}
use Rattle.laws_of_states.proofs.LawfulRounds.{cleared_tag}
use Rattle.laws_of_states.proofs.MarkedReplicas.{unordered_dropped, marked_in, after_marked, excess_known, marked_count}
use Rattle.laws_of_states.proofs.RoundCommands.{IsTested, deleted_is}

-- Laws of tests.

pub deletable_parts : (ordered stray excess corrupt enough : Bool) → (not ordered && (stray || excess || (corrupt && enough))) ≡ true
    → (ordered ≡ false) × ((stray ≡ true) ⊎ ((excess ≡ true) ⊎ ((corrupt ≡ true) × (enough ≡ true))))
deletable_parts true stray excess corrupt enough e = absurd (false≢true e)
deletable_parts false true excess corrupt enough e = (refl, inl refl)
deletable_parts false false true corrupt enough e = (refl, inr (inl refl))
deletable_parts false false false true true e = (refl, inr (inr (refl, refl)))
deletable_parts false false false true false e = absurd (false≢true e)
deletable_parts false false false false enough e = absurd (false≢true e)

pub live_is_kept : (tag : Tag) (excess : Bool) → (is_good tag && not excess) ≡ true → (is_stray tag ≡ true) ⊎ ((excess ≡ true) ⊎ (is_corrupt tag ≡ true)) → ⊥
live_is_kept Good true e h = false≢true e
live_is_kept Good false e (inl h) = false≢true h
live_is_kept Good false e (inr (inl h)) = false≢true h
live_is_kept Good false e (inr (inr h)) = false≢true h
live_is_kept Stale excess e h = false≢true e
live_is_kept Bad excess e h = false≢true e
live_is_kept Stray excess e h = false≢true e

-- Marks as a round marks them.

abbrev pub remarked : List ℕ → ℕ → Marks → Marks
remarked chosen s m = marked_in chosen s (unordered_dropped m)

dropped_ordered : (o : Bool) (m : Marks) → (if o then m else record m { excess = false }).ordered ≡ m.ordered
dropped_ordered true m = refl
dropped_ordered false m = refl

dropped_excess : (o : Bool) (m : Marks) → o ≡ false → (if o then m else record m { excess = false }).excess ≡ true → ⊥
dropped_excess true m e h = true≢false e
dropped_excess false m e h = false≢true h

pub remarked_tag : (chosen : List ℕ) (s : ℕ) (m : Marks) → (remarked chosen s m).tag ≡ m.tag
remarked_tag chosen s m =
    (elim (has chosen s) as (λ c. (if c then record (unordered_dropped m) { excess = true } else unordered_dropped m).tag ≡ (unordered_dropped m).tag) [ true ↦ refl | false ↦ refl ])
    ∙ cleared_tag m.ordered m

pub remarked_ordered : (chosen : List ℕ) (s : ℕ) (m : Marks) → (remarked chosen s m).ordered ≡ m.ordered
remarked_ordered chosen s m =
    (elim (has chosen s) as (λ c. (if c then record (unordered_dropped m) { excess = true } else unordered_dropped m).ordered ≡ (unordered_dropped m).ordered) [ true ↦ refl | false ↦ refl ])
    ∙ dropped_ordered m.ordered m

-- if the delete of a remarked excess replica was not ordered, its storage is chosen
pub remarked_excess : (chosen : List ℕ) (s : ℕ) (m : Marks) → m.ordered ≡ false → (remarked chosen s m).excess ≡ true → has chosen s ≡ true
remarked_excess chosen s m o =
    elim (has chosen s) as (λ c. (if c then record (unordered_dropped m) { excess = true } else unordered_dropped m).excess ≡ true → c ≡ true) [
      | true ↦ λ _. refl
      | false ↦ λ e. absurd (dropped_excess m.ordered m o e)
    ]

-- the storages that the next round chooses as surplus of a block
abbrev pub surplus_of : State → ℕ → List ℕ
surplus_of M b = excess_in M.cluster (unmarked M).holdings b

pub marks_started : (M : State) (q : ReplicaId) → get (state_at_choice M).holdings.replicas q ≡ option_map (remarked (surplus_of M q.block) q.storage) (get M.holdings.replicas q)
unfolding state_at_choice state_after_expiry with_surplus_marked without_expired without_unordered_excess
marks_started M q =
    get-revise (without_unordered_excess (state_after_expiry M).holdings).replicas (λ p m. marked_in (surplus_of M p.block) p.storage m) q
    ∙ ap (option_map (marked_in (surplus_of M q.block) q.storage)) (get-revise M.holdings.replicas (λ _ m. unordered_dropped m) q)
    ∙ (elim (get M.holdings.replicas q) as (λ o. option_map (marked_in (surplus_of M q.block) q.storage) (option_map unordered_dropped o) ≡ option_map (remarked (surplus_of M q.block) q.storage) o) [ None ↦ refl | Some m ↦ refl ])

-- a replica with marks at the round's start had marks before the round
pub marks_before : (M : State) (q : ReplicaId) (m : Marks) → get (state_at_choice M).holdings.replicas q ≡ Some m
    → (n : Marks) × (get M.holdings.replicas q ≡ Some n) × (remarked (surplus_of M q.block) q.storage n ≡ m)
marks_before M q m e = revised (remarked (surplus_of M q.block) q.storage) (get M.holdings.replicas q) m (sym (marks_started M q) ∙ e)

-- The marks of a replica whose delete is commanded.

-- the delete of a deletable replica was not ordered, and it is stray, in excess, or corrupt with
-- enough live ones
pub deleted_marks : (M : State) (q : ReplicaId) (m : Marks) → is_deletable M.cluster (state_at_choice M).holdings q m ≡ true
    → (m.ordered ≡ false) × ((is_stray m.tag ≡ true) ⊎ ((m.excess ≡ true) ⊎ ((is_corrupt m.tag ≡ true) × (has_enough_live M.cluster (state_at_choice M).holdings q.block ≡ true))))
unfolding is_deletable
deleted_marks M q m e = deletable_parts m.ordered (is_stray m.tag) m.excess (is_corrupt m.tag) (has_enough_live M.cluster (state_at_choice M).holdings q.block) e

none_of_none : (C : Cluster) (k : ℕ) (xs : List ℕ) (s : ℕ) → has (excess_among C k xs) s ≡ true → 1 ≤ k
none_of_none C zero xs s h = absurd (false≢true h)
none_of_none C (suc k) xs s h = omega arith

module _ (M : State) (b s : ℕ) (i : BlockInfo) (lawful : IsOrderly M) (known : get M.holdings.blocks b ≡ Some i) where
  pub enough_of : has_enough_live M.cluster (state_at_choice M).holdings b ≡ true → i.repl ≤ length (live_marked M b)
  unfolding has_enough_live state_at_choice state_after_expiry with_surplus_marked without_expired without_unordered_excess
  enough_of e = leb-true i.repl (length (live_marked M b)) (sym (ap (λ j. option_map_or (λ x. nat_le x.repl (length (live_marked M b))) j false) known) ∙ e)

  surplus_leaves : has (surplus_of M b) s ≡ true → i.repl ≤ length (live_marked M b)
  surplus_leaves h =
      let some = none_of_none M.cluster (length (live_unmarked M b) - i.repl) (live_unmarked M b) s (sym (ap (λ xs. has xs s) (excess_known M b i known)) ∙ h) in
      let count = marked_count M b i known in
      omega (arith, some, count)

  no_stray : (n : Marks) → get M.holdings.replicas (replica_at b s) ≡ Some n → is_stray n.tag ≡ true → ⊥
  no_stray n found e = true≢false (sym e ∙ lawful.holdings.strays (replica_at b s) n found ∙ ap (λ o. not (is_some o)) known)

  pub enough_left : IsTested M (replica_at b s) → i.repl ≤ length (live_marked M b)
  enough_left h =
      let is = deleted_is M (replica_at b s) h in
      let was = marks_before M (replica_at b s) is.0 is.1 in
      let marks = deleted_marks M (replica_at b s) is.0 is.2 in
      of_kind was.0 was.1 (sym (remarked_ordered (surplus_of M b) s was.0) ∙ ap (λ m. m.ordered) was.2 ∙ marks.0)
      (subst (λ m. (is_stray m.tag ≡ true) ⊎ ((m.excess ≡ true) ⊎ ((is_corrupt m.tag ≡ true) × (has_enough_live M.cluster (state_at_choice M).holdings b ≡ true)))) (sym was.2) marks.1)
    where
      of_kind : (n : Marks) → get M.holdings.replicas (replica_at b s) ≡ Some n → n.ordered ≡ false
          → (is_stray (remarked (surplus_of M b) s n).tag ≡ true) ⊎ (((remarked (surplus_of M b) s n).excess ≡ true) ⊎ ((is_corrupt (remarked (surplus_of M b) s n).tag ≡ true) × (has_enough_live M.cluster (state_at_choice M).holdings b ≡ true)))
          → i.repl ≤ length (live_marked M b)
      of_kind n found o (inl stray) = absurd (no_stray n found (sym (ap is_stray (remarked_tag (surplus_of M b) s n)) ∙ stray))
      of_kind n found o (inr (inl excess)) = surplus_leaves (remarked_excess (surplus_of M b) s n o excess)
      of_kind n found o (inr (inr corrupt)) = enough_of corrupt.1

  pub enough_stay : IsTested M (replica_at b s) → (1 ≤ i.repl) × (i.repl ≤ length (live_after M b))
  enough_stay h = ((lawful.holdings.replicated b i known).0, subst (λ xs. i.repl ≤ length xs) (sym (after_marked M b)) (enough_left h))

pub weaker_kind : (m : Marks) (enough : Bool) → (is_stray m.tag ≡ true) ⊎ ((m.excess ≡ true) ⊎ ((is_corrupt m.tag ≡ true) × (enough ≡ true))) → (is_stray m.tag ≡ true) ⊎ ((m.excess ≡ true) ⊎ (is_corrupt m.tag ≡ true))
weaker_kind m enough (inl h) = inl h
weaker_kind m enough (inr (inl h)) = inr (inl h)
weaker_kind m enough (inr (inr h)) = inr (inr h.0)

pub live_stays : (M : State) (b t : ℕ) → has (live_after M b) t ≡ true → IsTested M (replica_at b t) → ⊥
live_stays M b t there h =
    let is = deleted_is M (replica_at b t) h in
    let marks = deleted_marks M (replica_at b t) is.0 is.2 in
    let live_mark : is_live_on M.cluster t is.0 ≡ true =
    sym (ap (λ o. option_map_or (is_live_on M.cluster t) o false) is.1) ∙ sym (has_where (is_live_on M.cluster) (state_at_choice M).holdings b t) ∙ sym (ap (λ xs. has xs t) (after_marked M b)) ∙ there in
    live_is_kept is.0.tag is.0.excess (and_first (is_usable is.0) (not (is_draining M.cluster t)) live_mark) (weaker_kind is.0 (has_enough_live M.cluster (state_at_choice M).holdings b) marks.1)

-- a list that is not empty has a member
pub some_first : (xs : List ℕ) → 1 ≤ length xs → (t : ℕ) × (has xs t ≡ true)
some_first [] h = absurd (omega arith)
some_first (x ∷ xs) h = (x, or_left (x == x) (has xs x) (same_again x))

pub one_stays : (M : State) (b s : ℕ) (i : BlockInfo) → IsOrderly M → get M.holdings.blocks b ≡ Some i → IsTested M (replica_at b s)
    → (t : ℕ) × (has (live_after M b) t ≡ true) × (IsTested M (replica_at b t) → ⊥) × (t ≡ s → ⊥)
one_stays M b s i lawful known h =
    let enough = enough_stay M b s i lawful known h in
    let one = some_first (live_after M b) (omega (arith, enough.0, enough.1)) in
    (one.0, one.1, live_stays M b one.0 one.1, λ e. live_stays M b one.0 one.1 (subst (λ z. IsTested M (replica_at b z)) (sym e) h))
