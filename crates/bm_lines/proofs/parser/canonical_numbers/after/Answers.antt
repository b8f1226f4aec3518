use Rattle.std.proofs.lemmas.Bool.Decides.{Decides-eqb}
use Rattle.std.proofs.lemmas.Slice.Eq.{strip_prefix_is}
use Rattle.bm_lines.proofs.CanonicalLemmas.{where_some}
use Rattle.bm_lines.proofs.parser.canonical_numbers.after.Goals as goal

pub returns-clause-text : goal.returns-clause-text
returns-clause-text c =
    let known = strip_prefix_is Decides-eqb c.args.bytes.now c.args.text.now c.strip_prefix.result c.strip_prefix.ensures.cases in
    where_some _ _ c.strip_prefix.result known
