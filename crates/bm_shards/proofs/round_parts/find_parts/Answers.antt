use Rattle.bm_base.specs.declared.round.RoundPart.{RoundPart}
use Rattle.bm_base.specs.Machine.State.{Cluster}
use Rattle.std.specs.Prelude.{ℕ, Option}
use Rattle.std.proofs.Common.{ap}
use Rattle.bm_parts.specs.BoundedWishes.{part_before}
use Rattle.bm_shard.specs.ShardView.{Seen}
use Rattle.bm_shard.specs.UpToDate.{next_part}
use Rattle.bm_shards.specs.Answers.{HasAnswered}
use Rattle.bm_shards.proofs.SameShards.{still_taken}
use Rattle.bm_shards.proofs.round_parts.find_parts.Goals as goal

abbrev part_of : Cluster → Option (ℕ × ℕ) → Seen → RoundPart
part_of C bound S = part_before bound (next_part C S)

pub returns : goal.returns
returns g c =
    let f = part_of c.args.topology.now.cluster c.args.bound in
    let all = c.gather_answers.ensures f c.args.shards.now.items (still_taken (HasAnswered f) _ _ _ (ap (λ v. v.items) c.replace-items.ensures.value) c.find_all-found.ensures.each) in
    record { shards = all.shards; parts = all.answers; refused = all.refused }
