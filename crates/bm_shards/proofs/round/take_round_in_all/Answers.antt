use Rattle.std.specs.Prelude.{ℕ, ◌+◌, ◌<◌, ◌^◌}
use Rattle.std.specs.List.{All}
use Rattle.std.proofs.Common.{◌∙◌, refl, subst, sym}
use Rattle.bm_base.specs.Machine.State.{limits_of}
use Rattle.bm_shard.specs.ShardView.{Seen}
use Rattle.bm_shards.specs.RoundWork.{HasPart}
use Rattle.bm_shards.specs.RoundChoice.{next_parts, HasExcess}
use Rattle.bm_shards.proofs.Findings.{can_find, have_parts}
use Rattle.bm_shards.proofs.Choices.{wished_once, transfers_of_all, deletes_of_all}
use Rattle.bm_shards.proofs.GatheredAnswers.{on_err}
use Rattle.bm_shards.proofs.RoundsTaken.{all_counted}
use Rattle.bm_shards.proofs.RoundEnd.{end_shards, end_up_to_date, end_took, end_held, still_are, still_held, all_still_up_to_date, still_took, all_commands}
use Rattle.bm_shards.proofs.round.take_round_in_all.Goals as goal

pub find_round-requires-clause-shards : goal.find_round-requires-clause-shards
find_round-requires-clause-shards g c = can_find c.args.topology.now.cluster c.args.last c.args.config.now.pend _ c.requires.up_to_date c.requires.rounds

pub find_round-requires-clause-one_wish : goal.find_round-requires-clause-one_wish
find_round-requires-clause-one_wish g c =
    let C = c.args.topology.now.cluster in
    wished_once C (limits_of c.args.config.now) c.args.last c.args.shards.now.items (next_parts C c.args.shards.now.items) refl c.requires.shards c.requires.rounds

pub take_round-requires-clause-parts : goal.take_round-requires-clause-parts
take_round-requires-clause-parts g c =
    let C = c.args.topology.now.cluster in
    let excess = c.in_ok-found.ensures.excess in
    subst (All (HasPart C c.as_slice.result.now)) (sym c.find_round.ensures.shards)
    (have_parts C _ c.as_slice.result.now c.args.shards.now.items (subst (HasExcess C c.args.shards.now.items) (sym c.as_slice.ensures.value) excess) c.requires.shards.indexed)

pub take_round-requires-clause-counted : goal.take_round-requires-clause-counted
take_round-requires-clause-counted g c =
    subst (All (λ (s : ℕ × Seen). s.1.round + 1 < 2 ^ 64)) (sym c.find_round.ensures.shards)
    (all_counted c.args.last c.args.config.now.pend c.args.shards.now.items c.requires.counted c.requires.rounds)

pub returns-clause-commands : goal.returns-clause-commands
returns-clause-commands g c =
    let C = c.args.topology.now.cluster in
    let limits = limits_of c.args.config.now in
    let ss = c.args.shards.now.items in
    let chosen = c.in_ok-found.ensures.chosen in
    all_commands C limits c.args.last ss c.in_ok-found.found.choice.chosen _ (chosen.transfers ∙ transfers_of_all C limits c.args.last ss (next_parts C ss) refl c.requires.shards c.requires.rounds)
    (chosen.deletes ∙ deletes_of_all C limits c.args.last ss (next_parts C ss) refl c.requires.shards c.requires.rounds) chosen.commands

pub returns-clause-changed : goal.returns-clause-changed
returns-clause-changed g c =
    let C = c.args.topology.now.cluster in
    let limits = limits_of c.args.config.now in
    let ss = c.args.shards.now.items in
    let chosen = c.in_ok-found.ensures.chosen in
    end_held C limits c.args.last ss c.requires.shards c.requires.rounds c.in_ok-found.found.choice.chosen _ _ _ _ c.find_round.ensures.shards c.take_round.ensures.taken c.in_ok-take_round.was
    (chosen.transfers ∙ transfers_of_all C limits c.args.last ss (next_parts C ss) refl c.requires.shards c.requires.rounds)
    (chosen.deletes ∙ deletes_of_all C limits c.args.last ss (next_parts C ss) refl c.requires.shards c.requires.rounds)

pub returns-clause-shards : goal.returns-clause-shards
returns-clause-shards g c =
    end_shards c.args.topology.now.cluster (limits_of c.args.config.now) c.args.last c.args.shards.now.items c.requires.shards c.requires.rounds c.in_ok-found.found.choice.chosen _ _ _ _
    c.find_round.ensures.shards c.take_round.ensures.taken c.in_ok-take_round.was

pub returns-clause-up_to_date : goal.returns-clause-up_to_date
returns-clause-up_to_date g c =
    end_up_to_date c.args.topology.now.cluster (limits_of c.args.config.now) c.args.last c.args.shards.now.items c.requires.shards c.requires.rounds c.in_ok-found.found.choice.chosen _ _ _ _
    c.find_round.ensures.shards c.take_round.ensures.taken c.in_ok-take_round.was

pub returns-clause-rounds : goal.returns-clause-rounds
returns-clause-rounds g c =
    end_took c.args.topology.now.cluster (limits_of c.args.config.now) c.args.last c.args.shards.now.items c.requires.shards c.requires.rounds c.in_ok-found.found.choice.chosen _ _ _ _
    c.find_round.ensures.shards c.take_round.ensures.taken c.in_ok-take_round.was

pub returns-in_err-take_round-clause-shards : goal.returns-in_err-take_round-clause-shards
returns-in_err-take_round-clause-shards g c =
    still_are c.args.topology.now.cluster (limits_of c.args.config.now) c.args.last c.args.shards.now.items c.requires.shards c.requires.rounds _ _ _ _
    c.find_round.ensures.shards c.take_round.ensures.same c.in_err-take_round.was

pub returns-in_err-take_round-clause-up_to_date : goal.returns-in_err-take_round-clause-up_to_date
returns-in_err-take_round-clause-up_to_date g c =
    all_still_up_to_date c.args.topology.now.cluster (limits_of c.args.config.now) c.args.last c.args.shards.now.items c.requires.shards c.requires.rounds _ _ _ _
    c.find_round.ensures.shards c.take_round.ensures.same c.in_err-take_round.was c.requires.up_to_date

pub returns-in_err-take_round-clause-unchanged : goal.returns-in_err-take_round-clause-unchanged
returns-in_err-take_round-clause-unchanged g c =
    on_err _ _
    (still_held c.args.topology.now.cluster (limits_of c.args.config.now) c.args.last c.args.shards.now.items c.requires.shards c.requires.rounds _ _ _ _
    c.find_round.ensures.shards c.take_round.ensures.same c.in_err-take_round.was)

pub returns-in_err-take_round-clause-kept : goal.returns-in_err-take_round-clause-kept
returns-in_err-take_round-clause-kept g c =
    on_err _ _
    (still_took c.args.topology.now.cluster (limits_of c.args.config.now) c.args.last c.args.shards.now.items c.requires.shards c.requires.rounds _ _ _ _
    c.find_round.ensures.shards c.take_round.ensures.same c.in_err-take_round.was)
