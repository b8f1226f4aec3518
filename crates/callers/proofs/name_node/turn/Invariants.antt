use Rattle.std.proofs.Common.{◌≡◌, fold, take}
use Rattle.bm_base.specs.Machine.Calls.{after_event}
use Rattle.callers.proofs.name_node.turn.Given as goal

-- the events so far are applied
abbrev pub invariant-loop-event : goal.invariant-loop-event
invariant-loop-event g l = l.manager ≡ fold after_event l.fn.manager (take l.event-index l.events)
