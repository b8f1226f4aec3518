-- After a round all shards hold what the definition gives; after an aborted one, what they held.
use Rattle.std.specs.Prelude.{◌≡◌, ℕ, ◌+◌, List, length, Result, Ok, Err, OnOk, OnErr}
use Rattle.std.specs.List.{AllZip}
use Rattle.std.proofs.Common.{subst, ◌∙◌}
use Rattle.bm_base.specs.declared.commands.Commands.{Commands}
use Rattle.bm_base.specs.declared.refusal.Refusal.{Refusal}
use Rattle.bm_base.specs.declared.round.Chosen.{Chosen}
use Rattle.bm_base.specs.Words.{RoundLimits, Cluster, transfers, deletes, commands_of, end_round}
use Rattle.bm_base.specs.RoundParts.{holdings_at_choice}
use Rattle.bm_shard.specs.ShardView.{Seen}
use Rattle.bm_shards.specs.Whole.{held_by, AreShards, AreUpToDate, HaveTaken}
use Rattle.bm_shards.specs.Answers.{EachBecame}
use Rattle.bm_shards.specs.ShardWork.{IsSame}
use Rattle.bm_shards.specs.Rounds.{commands_in, left_by_round}
use Rattle.bm_shards.specs.RoundWork.{HasTakenRound}
use Rattle.bm_shards.proofs.RoundsTaken.{are_after, held_after, up_to_date_after, took_after}
use Rattle.bm_shards.proofs.SameShards.{still_shards, same_held, same_up_to_date, same_took}

module _ (C : Cluster) (limits : RoundLimits) (last : ℕ) (ss : List (ℕ × Seen)) (h : AreShards (length ss) ss) (took : HaveTaken last limits.pend ss) where
  -- The round was taken.
  module _ (chosen : Chosen) (back ts : List (ℕ × Seen)) (o : Result (Unit {0}) Refusal) (u : Unit {0}) (from : back ≡ ss)
      (done : OnOk o (EachBecame (HasTakenRound C chosen) back ts)) (is : o ≡ Ok u) where
    each : EachBecame (HasTakenRound C chosen) ss ts
    each = subst (λ (xs : List (ℕ × Seen)). EachBecame (HasTakenRound C chosen) xs ts) from (subst (λ r. OnOk r (EachBecame (HasTakenRound C chosen) back ts)) is done)

    pub end_shards : AreShards (length ts) ts
    end_shards = are_after C chosen last limits.pend ss ts each h took

    pub end_up_to_date : AreUpToDate C ts
    end_up_to_date = up_to_date_after C chosen ss ts each

    pub end_took : HaveTaken (last + 1) limits.pend ts
    end_took = took_after C chosen last limits.pend ss ts each took

    pub end_held : (all_ts : chosen.transfers ≡ transfers limits C (holdings_at_choice C limits.pend (last + 1) (held_by ss)))
        (all_ds : chosen.deletes ≡ deletes limits C (holdings_at_choice C limits.pend (last + 1) (held_by ss))) → held_by ts ≡ left_by_round limits C (last + 1) (held_by ss)
    end_held all_ts all_ds =
        held_after C chosen last limits.pend ss ts each h took ∙ (λ i. end_round (last + 1) (holdings_at_choice C limits.pend (last + 1) (held_by ss)) (all_ts i) (all_ds i))

  -- The round was aborted.
  module _ (back ts : List (ℕ × Seen)) (o : Result (Unit {0}) Refusal) (e : Refusal) (from : back ≡ ss) (same : OnErr o (AllZip IsSame back ts)) (is : o ≡ Err e) where
    still : AllZip IsSame ss ts
    still = subst (λ (xs : List (ℕ × Seen)). AllZip IsSame xs ts) from (subst (λ r. OnErr r (AllZip IsSame back ts)) is same)

    pub still_are : AreShards (length ts) ts
    still_are = still_shards ss ts still h

    pub still_held : held_by ts ≡ held_by ss
    still_held = same_held ss ts still

    pub all_still_up_to_date : AreUpToDate C ss → AreUpToDate C ts
    all_still_up_to_date = same_up_to_date C ss ts still

    pub still_took : HaveTaken last limits.pend ts
    still_took = same_took last limits.pend ss ts still took

-- the commands of the round
pub all_commands : (C : Cluster) (limits : RoundLimits) (last : ℕ) (ss : List (ℕ × Seen)) (chosen : Chosen) (k : Commands)
    → chosen.transfers ≡ transfers limits C (holdings_at_choice C limits.pend (last + 1) (held_by ss)) → chosen.deletes ≡ deletes limits C (holdings_at_choice C limits.pend (last + 1) (held_by ss))
    → k ≡ commands_of C (last + 1) chosen.transfers chosen.deletes → k ≡ commands_in limits C (last + 1) (held_by ss)
all_commands C limits last ss chosen k all_ts all_ds is = is ∙ (λ i. commands_of C (last + 1) (all_ts i) (all_ds i))
