use Rattle.std.proofs.Common.{◌≡◌}
use Rattle.cluster_input.proofs.LoadLemmas.{all_accepted_of, nothing_noted}
use Rattle.cluster_input.proofs.loaded_cluster.Loaded.take_kind.Goals as goal

pub returns-then-holds_lines-clause-state : goal.returns-then-holds_lines-clause-state
returns-then-holds_lines-clause-state g c = rw c.if-holds_lines.true c.take_lines.ensures.state

pub returns-then-holds_lines-clause-accepted : goal.returns-then-holds_lines-clause-accepted
returns-then-holds_lines-clause-accepted g c = rw c.if-holds_lines.true c.take_lines.ensures.accepted

pub returns-then-holds_lines-clause-notes : goal.returns-then-holds_lines-clause-notes
returns-then-holds_lines-clause-notes g c = rw c.if-holds_lines.true c.take_lines.ensures.notes

pub returns-clause-state : goal.returns-clause-state
returns-clause-state g c = rw c.if-holds_lines.false c.in_ok-take_fsck.ensures.state

pub returns-clause-accepted : goal.returns-clause-accepted
returns-clause-accepted g c = rw c.if-holds_lines.false (all_accepted_of (g.R.Read.remaining c.args.reader.now))

pub returns-clause-notes : goal.returns-clause-notes
returns-clause-notes g c =
    rw c.if-holds_lines.false (nothing_noted (g.R.Read.remaining c.args.reader.now) (g.N.Write.contents c.args.notes.now))
