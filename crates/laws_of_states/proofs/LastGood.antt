-- A round spares a known block's only good replica; its deletes leave the block enough live ones.
use Rattle.std.specs.Prelude.{◌≡◌, ℕ, true, Some, option_map}
use Rattle.std.proofs.Common.{sym, ap, ◌∙◌}
use Rattle.bm_base.specs.declared.replica.Tag.TheVariants.{Good}
use Rattle.bm_base.specs.declared.replica.Marks.{Marks}
use Rattle.bm_base.specs.declared.replica.BlockInfo.{BlockInfo}
use Rattle.bm_base.specs.Words.{get, State, replica_at, has, state_after_expiry, state_at_choice, whole_round, count_call}
use Rattle.bm_base.specs.Promises.Lawful.{IsOrderly}
use Rattle.bm_base.specs.Promises.Sparing.{SparesLastGood, KeepsEnoughLive}
use Rattle.bm_base.specs.Promises.NextRound.{after_round, live_after}
use Rattle.laws_of_states.proofs.RoundCommands.{IsTested}
use Rattle.laws_of_states.proofs.LiveAfterRound.{one_stays, enough_stay, live_stays}
use Rattle.bm_base.proofs.Options.{revised}
use Rattle.laws_of_states.proofs.AfterRound.{same_tag}
use Rattle.laws_of_states.proofs.LiveReplicas.{live_is}
use Rattle.laws_of_states.proofs.CommandedDeletes.{tested}

-- a replica that is live after a round was good before it
was_good : (M : State) (b t : ℕ) → has (live_after M b) t ≡ true → (m : Marks) × (get M.holdings.replicas (replica_at b t) ≡ Some m) × (m.tag ≡ Good)
was_good M b t h =
    let now = (live_is M.cluster (after_round M).holdings b t).0 h in
    revised (λ (m : Marks). m.tag) (get M.holdings.replicas (replica_at b t)) Good
    (sym (same_tag M (replica_at b t)) ∙ ap (option_map (λ (m : Marks). m.tag)) now.1 ∙ ap Some now.2)

pub only_good_stays : (M : State) (b s : ℕ) (i : BlockInfo) → IsOrderly M → get M.holdings.blocks b ≡ Some i
    → ((t : ℕ) (m : Marks) → get M.holdings.replicas (replica_at b t) ≡ Some m → m.tag ≡ Good → t ≡ s) → IsTested M (replica_at b s) → ⊥
only_good_stays M b s i lawful known only h =
    let one = one_stays M b s i lawful known h in
    let was = was_good M b one.0 one.1 in
    one.3 (only one.0 was.0 was.1 was.2)

-- `only_good_stays`, in the form of a round's contract.

pub round_spares : (M : State) → IsOrderly M → SparesLastGood M (whole_round M).0
round_spares M lawful b s i known only h = only_good_stays M b s i lawful known only (tested M (replica_at b s) h)

pub round_keeps : (M : State) → IsOrderly M → KeepsEnoughLive M (whole_round M).0 (count_call (whole_round M).1)
unfolding whole_round state_at_choice state_after_expiry
round_keeps M lawful b s i known h =
    let enough = enough_stay M b s i lawful known (tested M (replica_at b s) h) in
    (enough.0, enough.1, λ t there again. live_stays M b t there (tested M (replica_at b t) again))
