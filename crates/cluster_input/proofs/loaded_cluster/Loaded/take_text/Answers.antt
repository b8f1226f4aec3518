use Rattle.std.proofs.lemmas.Result.{IfOk-weaker, on_ok_weaker}
use Rattle.cluster_input.proofs.LoadLemmas.{accepts_through, after_through, filled_through, notes_through}
use Rattle.cluster_input.proofs.loaded_cluster.Loaded.take_text.Goals as goal

pub returns-in-Ok-clause-state : goal.returns-in-Ok-clause-state
returns-in-Ok-clause-state g c =
    on_ok_weaker c.take_behind.result
    (after_through _ _ c.read_head.new.head.items c.as_slice.result.now _ _ _ _ c.as_slice.ensures.value c.in-Ok.ensures)
    c.take_behind.ensures.state

pub returns-in-Ok-clause-accepted : goal.returns-in-Ok-clause-accepted
returns-in-Ok-clause-accepted g c =
    IfOk-weaker c.take_behind.result _ _
    (λ all. accepts_through _ _ c.read_head.new.head.items c.as_slice.result.now all _ c.as_slice.ensures.value c.in-Ok.ensures)
    c.take_behind.ensures.accepted

pub returns-in-Ok-clause-notes : goal.returns-in-Ok-clause-notes
returns-in-Ok-clause-notes g c =
    on_ok_weaker c.take_behind.result
    (notes_through _ _ c.read_head.new.head.items c.as_slice.result.now _ _ _ c.as_slice.ensures.value c.in-Ok.ensures)
    c.take_behind.ensures.notes

pub returns-in-Ok-clause-filled : goal.returns-in-Ok-clause-filled
returns-in-Ok-clause-filled g c =
    filled_through c.take_behind.result _ _ c.read_head.new.head.items c.in-Ok.ensures
