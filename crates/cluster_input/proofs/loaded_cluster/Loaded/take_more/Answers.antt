use Rattle.std.proofs.Common.{◌≡◌}
use Rattle.cluster_input.proofs.LoadLemmas.{filled_through, more_through}
use Rattle.cluster_input.proofs.loaded_cluster.Loaded.take_more.Goals as goal

pub returns-clause-state : goal.returns-clause-state
returns-clause-state g c =
    more_through c.take_lines.result _ _ c.read_head.new.head.items c.as_slice.result.now _ c.as_slice.ensures.value c.in_ok-read_head.ensures
    (rw (← c.chain-whole.ensures.bytes) c.take_lines.ensures.state)

pub returns-clause-notes : goal.returns-clause-notes
returns-clause-notes g c =
    more_through c.take_lines.result _ _ c.read_head.new.head.items c.as_slice.result.now _ c.as_slice.ensures.value c.in_ok-read_head.ensures
    (rw (← c.chain-whole.ensures.bytes) c.take_lines.ensures.notes)

pub returns-clause-filled : goal.returns-clause-filled
returns-clause-filled g c =
    filled_through c.take_lines.result _ _ c.read_head.new.head.items c.in_ok-read_head.ensures
