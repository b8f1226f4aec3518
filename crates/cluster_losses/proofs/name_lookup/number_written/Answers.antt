use Rattle.std.proofs.Common.{◌∙◌}
use Rattle.cluster_losses.proofs.NumberLemmas.{parsed}
use Rattle.cluster_losses.proofs.name_lookup.number_written.Goals as goal

pub returns : goal.returns
returns c = c.ok.ensures.value ∙ parsed c.args.text.now c.parse.result c.parse.ensures.value.0
