use Rattle.std.specs.Prelude.{map}
use Rattle.std.proofs.Common.{◌∙◌, ap}
use Rattle.bm_base.specs.Machine.State.{limits_of}
use Rattle.bm_base.specs.Choices.{chosen_transfers}
use Rattle.bm_parts.specs.BoundedWishes.{part_before}
use Rattle.bm_shards.proofs.Choices.{uncut}
use Rattle.bm_shards.proofs.round_parts.is_of_all.Goals as goal

pub returns-in-Some : goal.returns-in-Some
returns-in-Some c whole full chosen =
    let choose = chosen_transfers (limits_of c.args.config.now) c.args.topology.now.cluster in
    c.is_full.ensures.first _ whole full (chosen ∙ ap (λ b. choose (map (part_before b) whole)) c.in-Some.is)

pub returns-in-None : goal.returns-in-None
returns-in-None c whole full chosen =
    let choose = chosen_transfers (limits_of c.args.config.now) c.args.topology.now.cluster in
    chosen ∙ ap (λ b. choose (map (part_before b) whole)) c.in-None.is ∙ ap choose (uncut whole)
