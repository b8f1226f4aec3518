use Rattle.std.proofs.Common.{◌∙◌, ◌+◌, ap}
use Rattle.cluster_lost.specs.declared.block_pass.BlockPass.{BlockPass}
use Rattle.cluster_lost.proofs.PassLemmas.{switched_within, taken_passed, within_by}
use Rattle.cluster_lost.proofs.block_pass.BlockPass.take.Goals as goal

pub returns-clause-passed : goal.returns-clause-passed
returns-clause-passed c = λ M row_of n e left one known source was.
    taken_passed M row_of n c.args.excess.now e left c.args.replica.now c.args.info c.args.source c.args.self.now c.switch_block.new.self c.passes_excess-is_excess.new.self c.note.new.self
    c.passes_excess-is_excess.result c.is_usable-is_source.result one known source
    c.in_ok-switch_block.ensures c.passes_excess-is_excess.ensures.is c.passes_excess-is_excess.ensures.passed c.is_usable-is_source.ensures
    c.in_ok-note.ensures.sources c.note.ensures.all c.note.ensures.rows c.note.ensures.block c.note.ensures.passed was

pub returns-clause-within : goal.returns-clause-within
returns-clause-within c = λ n was.
    within_by (n + 1) c.switch_block.new.self c.note.new.self
    (c.note.ensures.all ∙ ap (λ (p : BlockPass). p.all) c.passes_excess-is_excess.ensures.passed)
    (c.note.ensures.rows ∙ ap (λ (p : BlockPass). p.rows) c.passes_excess-is_excess.ensures.passed)
    (switched_within n c.args.replica.now.block c.args.info c.args.self.now c.switch_block.new.self c.requires.few c.in_ok-switch_block.ensures was)
