-- One call against the definition: an answer is that of the step, a refusal the step's or out of
-- memory.
use Rattle.std.proofs.Common.{ap, sym, subst, ◌∙◌, refl}
use Rattle.bm_base.specs.declared.call.Answer.TheVariants as answer
use Rattle.bm_base.specs.Words.{MayAnswer, state_after_answer, step}
use Rattle.bm_manager.proofs.Runs.{ok_answer, ok_left, err_answer, err_left, step_answer, memory_answer, step_apply, step_round, step_replicas, step_corrupt, step_excess, step_blocks_on, step_missing, step_places, step_level, step_retired, step_calls, step_rounds}
use Rattle.bm_manager.proofs.manager.Manager.answer_with.Goals as goal

pub returns-in-Ok-clause-answer : goal.returns-in-Ok-clause-answer
returns-in-Ok-clause-answer g c =
    let M = c.args.self.now in
    subst (λ k. MayAnswer M k (answer.Done c.in-Ok.done)) (sym c.in-Apply.is) (ok_answer M _ _ _ (step_apply M c.in-Apply.event) _ c.in-Ok.ensures.accepted (ap answer.Done c.in-Ok.ensures.done))

pub returns-in-Ok-clause-state : goal.returns-in-Ok-clause-state
returns-in-Ok-clause-state g c =
    let M = c.args.self.now in
    ok_left M _ _ _ (step_apply M c.in-Apply.event) c.apply_with.new.self c.in-Ok.ensures.accepted c.in-Ok.ensures.state ∙ ap (λ k. (step M k).1) (sym c.in-Apply.is)

pub returns-in-Err-clause-answer : goal.returns-in-Err-clause-answer
returns-in-Err-clause-answer g c =
    let M = c.args.self.now in
    subst (λ k. MayAnswer M k (answer.Refused c.in-Err.refusal)) (sym c.in-Apply.is)
    (err_answer M _ _ _ (step_apply M c.in-Apply.event) c.in-Err.refusal refl c.in-Err.ensures.refused)

pub returns-in-Err-clause-state : goal.returns-in-Err-clause-state
returns-in-Err-clause-state g c =
    let M = c.args.self.now in
    err_left M _ _ _ (step_apply M c.in-Apply.event) c.apply_with.new.self c.in-Err.refusal c.in-Err.ensures.refused c.in-Err.ensures.unchanged
    ∙ ap (λ k. state_after_answer M k (answer.Refused c.in-Err.refusal)) (sym c.in-Apply.is)

pub returns-in-Ok-run_round-clause-answer : goal.returns-in-Ok-run_round-clause-answer
returns-in-Ok-run_round-clause-answer g c =
    let M = c.args.self.now in
    subst (λ k. MayAnswer M k (answer.Commanded c.in-Ok-run_round.commands)) (sym c.in-Round.is) (ok_answer M _ _ _ (step_round M) _ c.in-Ok-run_round.ensures.accepted (ap answer.Commanded c.in-Ok-run_round.ensures.commands))

pub returns-in-Ok-run_round-clause-state : goal.returns-in-Ok-run_round-clause-state
returns-in-Ok-run_round-clause-state g c =
    let M = c.args.self.now in
    ok_left M _ _ _ (step_round M) c.run_round.new.self c.in-Ok-run_round.ensures.accepted c.in-Ok-run_round.ensures.state ∙ ap (λ k. (step M k).1) (sym c.in-Round.is)

pub returns-in-Err-run_round-clause-answer : goal.returns-in-Err-run_round-clause-answer
returns-in-Err-run_round-clause-answer g c =
    let M = c.args.self.now in
    subst (λ k. MayAnswer M k (answer.Refused c.in-Err-run_round.refusal)) (sym c.in-Round.is)
    (err_answer M _ _ _ (step_round M) c.in-Err-run_round.refusal refl c.in-Err-run_round.ensures.refused)

pub returns-in-Err-run_round-clause-state : goal.returns-in-Err-run_round-clause-state
returns-in-Err-run_round-clause-state g c =
    let M = c.args.self.now in
    err_left M _ _ _ (step_round M) c.run_round.new.self c.in-Err-run_round.refusal c.in-Err-run_round.ensures.refused c.in-Err-run_round.ensures.unchanged
    ∙ ap (λ k. state_after_answer M k (answer.Refused c.in-Err-run_round.refusal)) (sym c.in-Round.is)

pub returns-in-Ok-replicas-clause-answer : goal.returns-in-Ok-replicas-clause-answer
returns-in-Ok-replicas-clause-answer g c =
    let M = c.args.self.now in
    subst (λ k. MayAnswer M k (answer.Replicas c.in-Ok-replicas.replicas)) (sym c.in-Replicas.is) (step_answer M _ _ _ (step_replicas M) (ap answer.Replicas c.in-Ok-replicas.ensures.replicas))

pub returns-in-Ok-replicas-clause-state : goal.returns-in-Ok-replicas-clause-state
returns-in-Ok-replicas-clause-state g c =
    let M = c.args.self.now in
    sym (ap (λ y. y.1) (step_replicas M)) ∙ ap (λ k. (step M k).1) (sym c.in-Replicas.is)

pub returns-in-Err-replicas-clause-answer : goal.returns-in-Err-replicas-clause-answer
returns-in-Err-replicas-clause-answer g c =
    let M = c.args.self.now in
    subst (λ k. MayAnswer M k (answer.Refused c.in-Err-replicas.refusal)) (sym c.in-Replicas.is) (memory_answer M _ _ (step_replicas M) refl refl c.in-Err-replicas.ensures.refused)

pub returns-in-Ok-corrupt-clause-answer : goal.returns-in-Ok-corrupt-clause-answer
returns-in-Ok-corrupt-clause-answer g c =
    let M = c.args.self.now in
    subst (λ k. MayAnswer M k (answer.ReplicaIds c.in-Ok-corrupt.corrupt)) (sym c.in-Corrupt.is) (step_answer M _ _ _ (step_corrupt M) (ap answer.ReplicaIds c.in-Ok-corrupt.ensures.corrupt))

pub returns-in-Ok-corrupt-clause-state : goal.returns-in-Ok-corrupt-clause-state
returns-in-Ok-corrupt-clause-state g c =
    let M = c.args.self.now in
    sym (ap (λ y. y.1) (step_corrupt M)) ∙ ap (λ k. (step M k).1) (sym c.in-Corrupt.is)

pub returns-in-Err-corrupt-clause-answer : goal.returns-in-Err-corrupt-clause-answer
returns-in-Err-corrupt-clause-answer g c =
    let M = c.args.self.now in
    subst (λ k. MayAnswer M k (answer.Refused c.in-Err-corrupt.refusal)) (sym c.in-Corrupt.is) (memory_answer M _ _ (step_corrupt M) refl refl c.in-Err-corrupt.ensures.refused)

pub returns-in-Ok-missing-clause-answer : goal.returns-in-Ok-missing-clause-answer
returns-in-Ok-missing-clause-answer g c =
    let M = c.args.self.now in
    subst (λ k. MayAnswer M k (answer.Blocks c.in-Ok-missing.missing)) (sym c.in-Missing.is) (step_answer M _ _ _ (step_missing M) (ap answer.Blocks c.in-Ok-missing.ensures.missing))

pub returns-in-Ok-missing-clause-state : goal.returns-in-Ok-missing-clause-state
returns-in-Ok-missing-clause-state g c =
    let M = c.args.self.now in
    sym (ap (λ y. y.1) (step_missing M)) ∙ ap (λ k. (step M k).1) (sym c.in-Missing.is)

pub returns-in-Err-missing-clause-answer : goal.returns-in-Err-missing-clause-answer
returns-in-Err-missing-clause-answer g c =
    let M = c.args.self.now in
    subst (λ k. MayAnswer M k (answer.Refused c.in-Err-missing.refusal)) (sym c.in-Missing.is) (memory_answer M _ _ (step_missing M) refl refl c.in-Err-missing.ensures.refused)

pub returns-in-Ok-places-clause-answer : goal.returns-in-Ok-places-clause-answer
returns-in-Ok-places-clause-answer g c =
    let M = c.args.self.now in
    subst (λ k. MayAnswer M k (answer.Storages c.in-Ok-places.storages)) (sym c.in-Places.is) (ok_answer M _ _ _ (step_places M c.in-Places.id) _ c.in-Ok-places.ensures.known (ap answer.Storages c.in-Ok-places.ensures.places))

pub returns-in-Ok-places-clause-state : goal.returns-in-Ok-places-clause-state
returns-in-Ok-places-clause-state g c =
    let M = c.args.self.now in
    ok_left M _ _ _ (step_places M c.in-Places.id) M c.in-Ok-places.ensures.known refl ∙ ap (λ k. (step M k).1) (sym c.in-Places.is)

pub returns-in-Err-places-clause-answer : goal.returns-in-Err-places-clause-answer
returns-in-Err-places-clause-answer g c =
    let M = c.args.self.now in
    subst (λ k. MayAnswer M k (answer.Refused c.in-Err-places.refusal)) (sym c.in-Places.is)
    (err_answer M _ _ _ (step_places M c.in-Places.id) c.in-Err-places.refusal refl c.in-Err-places.ensures.refused)

pub returns-in-Err-places-clause-state : goal.returns-in-Err-places-clause-state
returns-in-Err-places-clause-state g c =
    let M = c.args.self.now in
    err_left M _ _ _ (step_places M c.in-Places.id) M c.in-Err-places.refusal c.in-Err-places.ensures.refused refl
    ∙ ap (λ k. state_after_answer M k (answer.Refused c.in-Err-places.refusal)) (sym c.in-Places.is)

pub returns-in-Ok-level-clause-answer : goal.returns-in-Ok-level-clause-answer
returns-in-Ok-level-clause-answer g c =
    let M = c.args.self.now in
    subst (λ k. MayAnswer M k (answer.LevelIs c.in-Ok-level.level)) (sym c.in-LevelOf.is) (ok_answer M _ _ _ (step_level M c.in-LevelOf.id) _ c.in-Ok-level.ensures.known (ap answer.LevelIs c.in-Ok-level.ensures.level))

pub returns-in-Ok-level-clause-state : goal.returns-in-Ok-level-clause-state
returns-in-Ok-level-clause-state g c =
    let M = c.args.self.now in
    ok_left M _ _ _ (step_level M c.in-LevelOf.id) M c.in-Ok-level.ensures.known refl ∙ ap (λ k. (step M k).1) (sym c.in-LevelOf.is)

pub returns-in-Err-level-clause-answer : goal.returns-in-Err-level-clause-answer
returns-in-Err-level-clause-answer g c =
    let M = c.args.self.now in
    subst (λ k. MayAnswer M k (answer.Refused c.in-Err-level.refusal)) (sym c.in-LevelOf.is)
    (err_answer M _ _ _ (step_level M c.in-LevelOf.id) c.in-Err-level.refusal refl c.in-Err-level.ensures.refused)

pub returns-in-Err-level-clause-state : goal.returns-in-Err-level-clause-state
returns-in-Err-level-clause-state g c =
    let M = c.args.self.now in
    err_left M _ _ _ (step_level M c.in-LevelOf.id) M c.in-Err-level.refusal c.in-Err-level.ensures.refused refl
    ∙ ap (λ k. state_after_answer M k (answer.Refused c.in-Err-level.refusal)) (sym c.in-LevelOf.is)

pub returns-in-Ok-retired-clause-answer : goal.returns-in-Ok-retired-clause-answer
returns-in-Ok-retired-clause-answer g c =
    let M = c.args.self.now in
    subst (λ k. MayAnswer M k (answer.IsRetired c.in-Ok-retired.is_retired)) (sym c.in-Retired.is) (ok_answer M _ _ _ (step_retired M c.in-Retired.node) _ c.in-Ok-retired.ensures.known (ap answer.IsRetired c.in-Ok-retired.ensures.retired))

pub returns-in-Ok-retired-clause-state : goal.returns-in-Ok-retired-clause-state
returns-in-Ok-retired-clause-state g c =
    let M = c.args.self.now in
    ok_left M _ _ _ (step_retired M c.in-Retired.node) M c.in-Ok-retired.ensures.known refl ∙ ap (λ k. (step M k).1) (sym c.in-Retired.is)

pub returns-in-Err-retired-clause-answer : goal.returns-in-Err-retired-clause-answer
returns-in-Err-retired-clause-answer g c =
    let M = c.args.self.now in
    subst (λ k. MayAnswer M k (answer.Refused c.in-Err-retired.refusal)) (sym c.in-Retired.is)
    (err_answer M _ _ _ (step_retired M c.in-Retired.node) c.in-Err-retired.refusal refl c.in-Err-retired.ensures.refused)

pub returns-in-Err-retired-clause-state : goal.returns-in-Err-retired-clause-state
returns-in-Err-retired-clause-state g c =
    let M = c.args.self.now in
    err_left M _ _ _ (step_retired M c.in-Retired.node) M c.in-Err-retired.refusal c.in-Err-retired.ensures.refused refl
    ∙ ap (λ k. state_after_answer M k (answer.Refused c.in-Err-retired.refusal)) (sym c.in-Retired.is)

pub returns-in-Calls-clause-answer : goal.returns-in-Calls-clause-answer
returns-in-Calls-clause-answer g c =
    let M = c.args.self.now in
    subst (λ k. MayAnswer M k (answer.Number c.calls.result)) (sym c.in-Calls.is) (step_answer M _ _ _ (step_calls M) (ap answer.Number c.calls.ensures))

pub returns-in-Calls-clause-state : goal.returns-in-Calls-clause-state
returns-in-Calls-clause-state g c =
    let M = c.args.self.now in
    sym (ap (λ y. y.1) (step_calls M)) ∙ ap (λ k. (step M k).1) (sym c.in-Calls.is)

pub returns-in-Rounds-clause-answer : goal.returns-in-Rounds-clause-answer
returns-in-Rounds-clause-answer g c =
    let M = c.args.self.now in
    subst (λ k. MayAnswer M k (answer.Number c.rounds.result)) (sym c.in-Rounds.is) (step_answer M _ _ _ (step_rounds M) (ap answer.Number c.rounds.ensures))

pub returns-in-Rounds-clause-state : goal.returns-in-Rounds-clause-state
returns-in-Rounds-clause-state g c =
    let M = c.args.self.now in
    sym (ap (λ y. y.1) (step_rounds M)) ∙ ap (λ k. (step M k).1) (sym c.in-Rounds.is)

pub returns-in-Ok-excess-clause-answer : goal.returns-in-Ok-excess-clause-answer
returns-in-Ok-excess-clause-answer g c =
    let M = c.args.self.now in
    subst (λ k. MayAnswer M k (answer.ReplicaIds c.in-Ok-excess.excess)) (sym c.in-Excess.is) (step_answer M _ _ _ (step_excess M) (ap answer.ReplicaIds c.in-Ok-excess.ensures.excess))

pub returns-in-Ok-excess-clause-state : goal.returns-in-Ok-excess-clause-state
returns-in-Ok-excess-clause-state g c =
    let M = c.args.self.now in
    sym (ap (λ y. y.1) (step_excess M)) ∙ ap (λ k. (step M k).1) (sym c.in-Excess.is)

pub returns-in-Err-excess-clause-answer : goal.returns-in-Err-excess-clause-answer
returns-in-Err-excess-clause-answer g c =
    let M = c.args.self.now in
    subst (λ k. MayAnswer M k (answer.Refused c.in-Err-excess.refusal)) (sym c.in-Excess.is) (memory_answer M _ _ (step_excess M) refl refl c.in-Err-excess.ensures.refused)

pub returns-in-Ok-blocks_on-clause-answer : goal.returns-in-Ok-blocks_on-clause-answer
returns-in-Ok-blocks_on-clause-answer g c =
    let M = c.args.self.now in
    subst (λ k. MayAnswer M k (answer.Blocks c.in-Ok-blocks_on.blocks)) (sym c.in-BlocksOn.is) (ok_answer M _ _ _ (step_blocks_on M c.in-BlocksOn.storage) _ c.in-Ok-blocks_on.ensures.known (ap answer.Blocks c.in-Ok-blocks_on.ensures.blocks))

pub returns-in-Ok-blocks_on-clause-state : goal.returns-in-Ok-blocks_on-clause-state
returns-in-Ok-blocks_on-clause-state g c =
    let M = c.args.self.now in
    ok_left M _ _ _ (step_blocks_on M c.in-BlocksOn.storage) M c.in-Ok-blocks_on.ensures.known refl ∙ ap (λ k. (step M k).1) (sym c.in-BlocksOn.is)

pub returns-in-Err-blocks_on-clause-answer : goal.returns-in-Err-blocks_on-clause-answer
returns-in-Err-blocks_on-clause-answer g c =
    let M = c.args.self.now in
    subst (λ k. MayAnswer M k (answer.Refused c.in-Err-blocks_on.refusal)) (sym c.in-BlocksOn.is)
    (err_answer M _ _ _ (step_blocks_on M c.in-BlocksOn.storage) c.in-Err-blocks_on.refusal refl c.in-Err-blocks_on.ensures.refused)

pub returns-in-Err-blocks_on-clause-state : goal.returns-in-Err-blocks_on-clause-state
returns-in-Err-blocks_on-clause-state g c =
    let M = c.args.self.now in
    err_left M _ _ _ (step_blocks_on M c.in-BlocksOn.storage) M c.in-Err-blocks_on.refusal c.in-Err-blocks_on.ensures.refused refl
    ∙ ap (λ k. state_after_answer M k (answer.Refused c.in-Err-blocks_on.refusal)) (sym c.in-BlocksOn.is)
