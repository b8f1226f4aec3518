use Rattle.std.proofs.Common.{◌∙◌, ap}
use Rattle.bm_base.specs.Machine.State.{limits_of}
use Rattle.bm_base.specs.Choices.{chosen_transfers}
use Rattle.bm_shards.proofs.Choices.{cut, cut_wishes_sorted, cut_deletes_sorted, cut_once, cut_excess, cut_deletes}
use Rattle.bm_shards.proofs.round_parts.find_before.Goals as goal

pub choose_commands-requires : goal.choose_commands-requires
choose_commands-requires g c =
    let C = c.args.topology.now.cluster in
    let ss = c.args.shards.now.items in
    let is = c.as_slice.ensures.value ∙ c.in_ok-parts.ensures.parts in
    record { wishes = cut_wishes_sorted C c.args.bound ss _ is; deletes = cut_deletes_sorted C c.args.bound ss _ is; one_wish = cut_once C c.args.bound ss _ is c.requires.one_wish }

pub returns-clause-excess : goal.returns-clause-excess
returns-clause-excess g c = cut_excess c.args.topology.now.cluster c.args.bound c.args.shards.now.items _ c.in_ok-parts.ensures.parts

pub returns-clause-transfers : goal.returns-clause-transfers
returns-clause-transfers g c =
    let C = c.args.topology.now.cluster in
    let is = c.as_slice.ensures.value ∙ c.in_ok-parts.ensures.parts in
    c.in_ok-choice.ensures.transfers ∙ ap (chosen_transfers (limits_of c.args.config.now) C) (cut C c.args.bound c.args.shards.now.items _ is)

pub returns-clause-deletes : goal.returns-clause-deletes
returns-clause-deletes g c =
    let is = c.as_slice.ensures.value ∙ c.in_ok-parts.ensures.parts in
    c.in_ok-choice.ensures.deletes ∙ cut_deletes c.args.topology.now.cluster c.args.bound c.args.shards.now.items _ is (limits_of c.args.config.now)
