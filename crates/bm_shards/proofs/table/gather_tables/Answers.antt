use Rattle.std.proofs.Common.{ap}
use Rattle.bm_shards.specs.Answers.{HasAnswered}
use Rattle.bm_shards.specs.Rows.{rows_of}
use Rattle.bm_shards.proofs.SameShards.{still_taken}
use Rattle.bm_shards.proofs.table.gather_tables.Goals as goal

pub returns : goal.returns
returns g c =
    let all = c.gather_answers.ensures rows_of c.args.shards.now.items (still_taken (HasAnswered rows_of) _ _ _ (ap (λ v. v.items) c.replace-items.ensures.value) c.rows_of_all-made.ensures.each) in
    record { shards = all.shards; tables = all.answers; refused = all.refused }
