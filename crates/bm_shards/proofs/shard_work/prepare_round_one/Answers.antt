use Rattle.std.specs.Prelude.{◌≤◌, option_map}
use Rattle.std.proofs.Common.{length, sym, ap, ◌∙◌}
use Rattle.std.proofs.lemmas.Bool.{ltb-false}
use Rattle.std.proofs.lemmas.Option.{none-some, slice_get_past}
use Rattle.bm_base.specs.declared.round.RoundPart.{RoundPart}
use Rattle.bm_shards.proofs.shard_work.prepare_round_one.Goals as goal

pub unreachable-requires : goal.unreachable-requires
unreachable-requires c =
    let parts = c.args.parts.now in
    let past : length parts ≤ c.args.index = ltb-false c.args.index (length parts) (sym c.in-None.ensures.lookup.0) in
    none-some _ (sym (ap (option_map (λ (p : RoundPart). p.excess)) (slice_get_past parts c.args.index past)) ∙ c.requires)
