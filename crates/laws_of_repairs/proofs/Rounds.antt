-- A block that has no level before a round, so needs no copy, has none after it.
use Rattle.std.specs.Prelude.{◌≡◌, ℕ, ◌≤◌, Bool, true, false, not, ◌&&◌, nat_lt, if◌then◌else◌, length, Option, Some, None, is_some}
use Rattle.std.proofs.Common.{refl, sym, ap, subst, ◌∙◌, arith}
use Rattle.std.proofs.lemmas.Bool.{false≢true, ltb-true}
use Rattle.bm_base.specs.declared.replica.Level.{Level}
use Rattle.bm_base.specs.declared.replica.Level.TheVariants.{Highest, VeryUnderReplicated, UnderReplicated, BadlyDistributed, NoUsableReplica}
use Rattle.bm_base.specs.declared.replica.Marks.{Marks}
use Rattle.bm_base.specs.declared.replica.BlockInfo.{BlockInfo}
use Rattle.bm_base.specs.Words.{get, Cluster, State, has, live, is_live_on, is_usable, is_good, is_draining, rack_of, level, storages_where, with_excess_reset, state_at_choice, state_after_expiry, without_expired, without_unordered_excess}
use Rattle.bm_base.specs.Promises.Lawful.{IsOrderly}
use Rattle.bm_base.specs.Promises.NextRound.{after_round, live_unmarked, live_marked, live_after}
use Rattle.bm_base.proofs.ListTests.{and_first, and_second}
use Rattle.bm_base.proofs.Membership.{once_where, revised_where}
use Rattle.bm_parts.proofs.Storages.{fewer_where}
use Rattle.laws_of_states.proofs.LiveReplicas.{live_is}
use Rattle.laws_of_states.proofs.LawfulRounds.{round_orderly}
use Rattle.laws_of_states.proofs.MarkedReplicas.{after_marked}
use Rattle.laws_of_rounds.specs.Levels.{need, AreOnOneRack, HasTwoRacks}
use Rattle.laws_of_rounds.proofs.Needs.{short, level_unknown}
use Rattle.laws_of_rounds.proofs.OneRack.{level_three, two_has}
use Rattle.laws_of_rounds.proofs.MarkedRacks.{last_stays}
use Rattle.laws_of_rounds.proofs.DeleteReasons.{live_before_is, leaves_enough}
use Rattle.laws_of_rounds.proofs.NodeCommands.{same_rest}

-- Live replicas count when a round begins.

reset_live : (C : Cluster) (s : ℕ) (m : Marks) → is_live_on C s m ≡ true → is_live_on C s (with_excess_reset m) ≡ true
reset_live C s m e = by_ordered m.ordered
  where
    off : Bool
    off = not (is_draining C s)

    good : is_good m.tag ≡ true
    good = and_first (is_good m.tag) (not m.excess) (and_first (is_usable m) off e)

    by_ordered : (o : Bool) → (is_usable (if o then m else record m { excess = false }) && off) ≡ true
    by_ordered true = e
    by_ordered false = ap (λ g. (g && true) && off) good ∙ and_second (is_usable m) off e

still_live : (M : State) (b s : ℕ) → has (live M.cluster M.holdings b) s ≡ true → has (live_unmarked M b) s ≡ true
still_live M b s h =
    let m = (live_is M.cluster M.holdings b s).0 h in
    (live_before_is M b s).1 (m.0, m.1, m.2, ap (λ x. x && m.0.ordered) m.3, m.4)

as_many_live : (M : State) (b : ℕ) → length (live M.cluster M.holdings b) ≤ length (live_unmarked M b)
unfolding storages_where state_after_expiry without_expired without_unordered_excess
as_many_live M b =
    let fewer = fewer_where (is_live_on M.cluster) (λ s m. is_live_on M.cluster s (with_excess_reset m)) M.holdings b (reset_live M.cluster) in
    let revised = ap length (revised_where (is_live_on M.cluster) M.holdings b (λ q m. with_excess_reset m)) in
    omega (arith, fewer, revised)

-- Levels.

no_other : (l : Option Level) → (2 ≤ need l → ⊥) → (l ≡ Some BadlyDistributed → ⊥) → l ≡ None
no_other None short bad = refl
no_other (Some BadlyDistributed) short bad = absurd (bad refl)
no_other (Some UnderReplicated) short bad = absurd (short (omega arith))
no_other (Some VeryUnderReplicated) short bad = absurd (short (omega arith))
no_other (Some Highest) short bad = absurd (short (omega arith))
no_other (Some NoUsableReplica) short bad = absurd (short (omega arith))

module _ (M : State) (O : IsOrderly M) (b : ℕ) (i : BlockInfo) (known : get M.holdings.blocks b ≡ Some i) (none : level M.cluster M.holdings b ≡ None) where
  abbrev N : State
  N = after_round M

  known_after : get N.holdings.blocks b ≡ Some i
  known_after = ap (λ m. get m b) (same_rest M).1 ∙ known

  enough : i.repl ≤ length (live M.cluster M.holdings b)
  enough = by_test (nat_lt (length (live M.cluster M.holdings b)) i.repl) refl
    where
      by_test : (t : Bool) → nat_lt (length (live M.cluster M.holdings b)) i.repl ≡ t → i.repl ≤ length (live M.cluster M.holdings b)
      by_test true e = absurd (omega (arith, subst (λ l. 2 ≤ need l) none ((short M.cluster M.holdings b i known).1 (ltb-true (length (live M.cluster M.holdings b)) i.repl e))))
      by_test false e = grind (arith, e)

  enough_after : length (live_after M b) ≡ i.repl
  enough_after = let more = as_many_live M b in (leaves_enough M b i known).0 (omega (arith, enough, more))

  not_short : 2 ≤ need (level M.cluster N.holdings b) → ⊥
  not_short h = let less = (short M.cluster N.holdings b i known_after).0 h in omega (arith, less, enough_after)

  not_badly : level M.cluster N.holdings b ≡ Some BadlyDistributed → ⊥
  not_badly bad =
      let h = (level_three N b i (round_orderly M O) known_after).0 (ap (λ C. level C N.holdings b) (same_rest M).0 ∙ bad) in
      let one : AreOnOneRack M.cluster (live_marked M b) =
      subst (AreOnOneRack M.cluster) (after_marked M b) (subst (λ C. AreOnOneRack C (live C N.holdings b)) (same_rest M).0 h.2) in
      let count = ap length (after_marked M b) in
      let wanted = h.0 in
      let two = two_has (live_marked M b) (once_where (is_live_on M.cluster) (state_at_choice M).holdings b) (omega (arith, count, wanted, enough_after)) in
      let rack_as : (s : ℕ) → has (live M.cluster M.holdings b) s ≡ true → rack_of M.cluster s ≡ rack_of M.cluster two.0 = λ s at.
      let v = last_stays M b s two.0 two.1 O (still_live M b s at) two.2 two.3 two.4 (one two.0 two.1 two.2 two.3) in
      sym v.2 ∙ one v.0 two.0 v.1 two.2 in
      let before = (level_three M b i O known).1 (wanted, enough, (λ s t at_s at_t. rack_as s at_s ∙ sym (rack_as t at_t)), subst HasTwoRacks (same_rest M).0 h.3) in
      false≢true (ap is_some (sym none ∙ before))

  known_none : level N.cluster N.holdings b ≡ None
  known_none = ap (λ C. level C N.holdings b) (same_rest M).0 ∙ no_other (level M.cluster N.holdings b) not_short not_badly

pub round_gives_none : (M : State) → IsOrderly M → (b : ℕ) → level M.cluster M.holdings b ≡ None → level (after_round M).cluster (after_round M).holdings b ≡ None
round_gives_none M O b none = by_info (get M.holdings.blocks b) refl
  where
    by_info : (o : Option BlockInfo) → get M.holdings.blocks b ≡ o → level (after_round M).cluster (after_round M).holdings b ≡ None
    by_info None e = level_unknown (after_round M).cluster (after_round M).holdings b (ap (λ m. get m b) (same_rest M).1 ∙ e)
    by_info (Some i) e = known_none M O b i e none
