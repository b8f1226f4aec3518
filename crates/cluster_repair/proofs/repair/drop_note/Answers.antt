use Rattle.std.proofs.Common.{◌∙◌, List, ap, not, eqb, rules}
use Rattle.std.proofs.lemmas.Fn.{filter_same}
use Rattle.cluster_repair.specs.declared.repair.Retirement.{Retirement}
use Rattle.cluster_repair.specs.Retirements.{retirement_of}
use Rattle.cluster_repair.proofs.RetirementLemmas.{note_dropped}
use Rattle.cluster_repair.proofs.repair.drop_note.Goals as goal

pub returns : goal.returns
returns c n =
    let kept = filter_same _ (λ (t : Retirement). not (eqb t.node c.args.node)) _ (λ x b f' k. search rules) _ _ c.retain.ensures.filtered in
    ap (λ (ts : List Retirement). retirement_of ts n) kept ∙ note_dropped c.args.retired.now.items c.args.node n
