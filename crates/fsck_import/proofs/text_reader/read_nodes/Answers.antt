use Rattle.std.proofs.lemmas.Result.{IfOk-weaker}
use Rattle.fsck_import.proofs.TextBlocks.{fresh_nodes}
use Rattle.fsck_import.proofs.text_reader.read_nodes.Goals as goal

pub returns-in-Ok-clause-fresh : goal.returns-in-Ok-clause-fresh
returns-in-Ok-clause-fresh g c =
    IfOk-weaker c.end_nodes.result _ _
    (λ nodes h. fresh_nodes (g.R.Read.remaining c.args.reader.now) c.take_lines.new.taker c.in-Ok.number nodes (rw c.new-list.ensures at c.in-Ok.ensures.text) h) c.end_nodes.ensures.ok
