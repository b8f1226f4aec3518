use Rattle.std.specs.Prelude.{◌≡◌, ◌≤◌, Some, option_map, slice_get}
use Rattle.std.proofs.Common.{length, refl, sym, ap, ◌∙◌}
use Rattle.std.proofs.lemmas.Bool.{ltb-true, ltb-false}
use Rattle.std.proofs.lemmas.Option.{none-some, same_Some, slice_get_read, slice_get_past}
use Rattle.bm_base.specs.declared.round.RoundPart.{RoundPart}
use Rattle.bm_shards.proofs.shard_work.commit_round_one.Goals as goal

pub unreachable-requires : goal.unreachable-requires
unreachable-requires c =
    let parts = c.args.parts.now in
    let past : length parts ≤ c.args.index = ltb-false c.args.index (length parts) (sym c.in-None.ensures.lookup.0) in
    none-some _ (sym (ap (option_map (λ (p : RoundPart). p.excess)) (slice_get_past parts c.args.index past)) ∙ c.requires.part)

pub round_commit-requires-clause-part : goal.round_commit-requires-clause-part
round_commit-requires-clause-part c =
    let parts = c.args.parts.now in
    let lookup = c.in-Some.ensures.lookup in
    let is : slice_get parts c.args.index ≡ Some c.in-Some.part.now = slice_get_read parts (length parts) c.args.index c.in-Some.part.now refl (ltb-true c.args.index (length parts) (sym lookup.0)) lookup.1 in
    same_Some _ _ (sym (ap (option_map (λ (p : RoundPart). p.excess)) is) ∙ c.requires.part)
