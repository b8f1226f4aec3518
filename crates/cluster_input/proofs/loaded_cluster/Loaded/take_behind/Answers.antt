use Rattle.std.proofs.Common.{◌≡◌}
use Rattle.cluster_input.proofs.loaded_cluster.Loaded.take_behind.Goals as goal

pub returns-clause-state : goal.returns-clause-state
returns-clause-state g c =
    rw (← c.are_lines-holds_lines.ensures, ← c.chain-whole.ensures.bytes) c.take_kind.ensures.state

pub returns-clause-accepted : goal.returns-clause-accepted
returns-clause-accepted g c =
    rw (← c.are_lines-holds_lines.ensures, ← c.chain-whole.ensures.bytes) c.take_kind.ensures.accepted

pub returns-clause-notes : goal.returns-clause-notes
returns-clause-notes g c =
    rw (← c.are_lines-holds_lines.ensures, ← c.chain-whole.ensures.bytes) c.take_kind.ensures.notes
