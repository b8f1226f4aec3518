use Rattle.std.proofs.Common.{◌∙◌, sym}
use Rattle.bm_shards.specs.Answers.{HasAnswered}
use Rattle.bm_shards.proofs.GatheredAnswers.{same_shards, all_answers, memory_refused}
use Rattle.bm_shards.proofs.answers.gather_answers.Goals as goal

pub returns-in-Ok : goal.returns-in-Ok
returns-in-Ok g c f ss each = record {
  shards = c.split_answers.ensures.shards ∙ same_shards f ss _ each;
  answers = c.split_answers.ensures.answers ∙ all_answers f ss _ each (sym c.split_answers.ensures.outcome ∙ c.in-Ok.is);
  refused = tt;
}

pub returns-in-Err : goal.returns-in-Err
returns-in-Err g c f ss each = record {
  shards = c.split_answers.ensures.shards ∙ same_shards f ss _ each;
  answers = tt;
  refused = memory_refused (HasAnswered f) (λ s m h. h.refused) ss _ _ each (sym c.split_answers.ensures.outcome ∙ c.in-Err.is);
}
