use Rattle.std.proofs.Common.{◌≡◌, ◌≤◌, fold, take}
use Rattle.bm_base.specs.Machine.Calls.{after_event}
use Rattle.bm_view.specs.History.{last_of}
use Rattle.callers.proofs.concurrent_reader.apply_all.Given as goal

-- the events so far are applied, and the publisher's last version is no newer than the manager
abbrev pub invariant-loop-event : goal.invariant-loop-event
invariant-loop-event g l =
    (l.manager ≡ fold after_event l.fn.manager (take l.event-index l.events))
    × ((last_of l.publisher.list).calls ≤ l.manager.calls)
    × (l.publisher.home ≡ l.fn.publisher.home)
    × (l.fn.manager.calls ≤ l.manager.calls)
