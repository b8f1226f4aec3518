use Rattle.std.proofs.Common.{◌<◌, ap, sym, subst, ◌∙◌}
use Rattle.bm_base.specs.Words.{whole_round, count_call, last_number}
use Rattle.bm_manager.specs.contracts.manager.Manager.{the_view}
use Rattle.bm_manager.proofs.ManagerRounds.{whole_commands, whole_state}
use Rattle.bm_manager.proofs.Lawfulness.{next_manager}
use Rattle.bm_manager.proofs.manager.Manager.next_round.Goals as goal

pub returns-clause-commands : goal.returns-clause-commands
returns-clause-commands g c =
    c.in_ok-commands.ensures.commands ∙ whole_commands (the_view c.self.inside) ∙ ap (λ N. (whole_round N).0) c.self.view_is

pub returns-clause-state : goal.returns-clause-state
returns-clause-state g c =
    whole_state (the_view c.self.inside) c.round.new.self.holdings c.in_ok-commands.ensures.changed ∙ ap (λ N. count_call (whole_round N).1) c.self.view_is

pub invariant_of-self-2 : goal.invariant_of-self-2
invariant_of-self-2 g c =
    let m = c.self.inside in
    let rounds_left = subst (λ N. N.round < last_number) (sym c.self.view_is) c.requires.round in
    let calls_left = subst (λ N. N.calls < last_number) (sym c.self.view_is) c.requires.calls in
    next_manager m.config m.topology.cluster m.shards m.round m.calls c.self.invariant c.round.new.self rounds_left calls_left
    c.in_ok-commands.ensures.changed c.round.ensures.up_to_date c.in_ok-commands.ensures.rounds
