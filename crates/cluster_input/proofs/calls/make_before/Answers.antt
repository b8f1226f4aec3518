use Rattle.std.proofs.lemmas.Result.{on_ok_weaker}
use Rattle.cluster_input.proofs.MakeLemmas.{made_more}
use Rattle.cluster_input.proofs.calls.make_before.Goals as goal

pub returns-clause-made : goal.returns-clause-made
returns-clause-made g c =
    on_ok_weaker c.make_adds.result
    (made_more _ _ _ _ _ (made_more _ _ _ _ _ c.in_ok-make_registers.ensures.made c.in_ok-make_heartbeats.ensures.made))
    c.make_adds.ensures.made
