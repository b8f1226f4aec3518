use Rattle.std.proofs.Common.{◌≡◌, drop}
use Rattle.std.specs.List.{fold}
use Rattle.bm_base.specs.Machine.Calls.{after_event}
use Rattle.cluster_report.specs.Sessions.{IsInStep}
use Rattle.cluster_losses.proofs.events.apply_all.Given as goal

-- from here the events that are left lead to where all of them lead
abbrev pub invariant-loop-event : goal.invariant-loop-event
invariant-loop-event g l = record {
  state : fold after_event l.fn.session.manager l.events ≡ fold after_event l.session.manager (drop l.event-index l.events);
  in_step : IsInStep l.session;
}
