use Rattle.std.proofs.lemmas.Result.{on_ok_weaker}
use Rattle.cluster_input.proofs.MakeLemmas.{made_more}
use Rattle.cluster_input.proofs.calls.make_calls.Goals as goal

pub returns-clause-made : goal.returns-clause-made
returns-clause-made g c =
    on_ok_weaker c.make_after.result (made_more _ _ _ _ _ c.in_ok-make_before.ensures.made) c.make_after.ensures.made
