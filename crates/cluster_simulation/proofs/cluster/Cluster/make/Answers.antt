use Rattle.std.proofs.Common.{◌+◌, ◌-◌, ◌^◌, ap, ◌∙◌, string_bytes}
use Rattle.std.specs.Prelude.{min, if◌then◌else◌}
use Rattle.bm_base.specs.Words.{step, is_refused}
use Rattle.cluster_simulation.proofs.Calls.{some_if}
use Rattle.cluster_simulation.proofs.cluster.Cluster.make.Goals as goal

pub returns-clause-refused : goal.returns-clause-refused
returns-clause-refused g c =
    c.add_if_refused-refused.ensures
    ∙ ap (λ b. if b then min (c.args.self.now.refused + 1) (2 ^ 64 - 1) else c.args.self.now.refused)
    (some_if string_bytes _ (is_refused (step c.args.self.now.session.manager c.args.call.now).0) _ c.in_ok-message.ensures.refusal_text)
