use Rattle.std.proofs.Common.{◌≡◌, ◌<◌, ◌%◌, arith, sym, ap, ◌∙◌}
use Rattle.std.proofs.Math.Nat.{mod-lt}
use Rattle.bm_report.proofs.NumberRuns.{ahead, around}
use Rattle.bm_report.proofs.first_of_part.first_of_part.Goals.{then-here-index, else-here-index}
use Rattle.bm_report.proofs.first_of_part.first_of_part.Goals as goal

pub returns-clause-of_part : goal.returns-clause-of_part
returns-clause-of_part c =
    let is : c.from-3.result % c.args.part.shards ≡ c.from-here.result =
    ap (λ n. n % c.args.part.shards) (c.from-3.ensures ∙ c.from-2.view_is) ∙ sym (c.from-here.ensures ∙ c.shard_of.ensures) in
    elim c.if-here-index.branch [
      | then-here-index w ↦
          ahead c.from-3.result c.from-4.result c.args.part.shards c.from-here.result c.args.part.index is c.requires.index
          (omega (arith, w.if-here-index.true, c.from-index.ensures)) (omega (arith, c.from-4.ensures, w.gap-is, c.from-index.ensures))
      | else-here-index w ↦
          let here : c.from-here.result < c.args.part.shards =
          let own = mod-lt c.from-3.result c.requires.shards in omega (arith, own, is) in
          around c.from-3.result c.from-4.result c.args.part.shards c.from-here.result c.args.part.index is here c.requires.index
          (omega (arith, w.if-here-index.false, c.from-index.ensures)) (omega (arith, c.from-4.ensures, w.gap-is, c.from-index.ensures, c.from-shards.ensures))
    ]
