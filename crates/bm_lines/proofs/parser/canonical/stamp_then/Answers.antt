use Rattle.std.proofs.Common.{codes, refl}
use Rattle.bm_lines.specs.CallText.{number_text}
use Rattle.bm_lines.proofs.CanonicalLemmas.{two_fields}
use Rattle.bm_lines.proofs.parser.canonical.stamp_then.Goals as goal

pub returns-clause-text : goal.returns-clause-text
returns-clause-text c =
    let generation = c.in_ok-generation in
    let len = c.in_ok-len in
    two_fields c.args.fields.now generation.fields.now len.fields.now len.fields.now (number_text (codes "gen") generation.generation) (number_text (codes "len") len.len)
    generation.ensures.text len.ensures.text refl
