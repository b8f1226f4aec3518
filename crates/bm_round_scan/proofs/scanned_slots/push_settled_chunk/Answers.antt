use Rattle.std.proofs.Common.{◌∷◌, [], ◌∙◌}
use Rattle.std.proofs.lemmas.List.{drop_more}
use Rattle.std.proofs.lemmas.Option.{slice_get-get_or, get_or_from_slice_get}
use Rattle.bm_queues.proofs.Indices.{among_at}
use Rattle.bm_round_scan.proofs.PassingSlots.{passing_on}
use Rattle.bm_round_scan.proofs.scanned_slots.push_settled_chunk.Goals as goal

pub push_if_settled-requires-clause-level : goal.push_if_settled-requires-clause-level
push_if_settled-requires-clause-level c = c.requires.level _ (among_at c.args.chunk.now c.loop-index.index c.loop-index-test.true)

pub push_if_settled-requires-clause-id : goal.push_if_settled-requires-clause-id
push_if_settled-requires-clause-id c =
    let here = slice_get-get_or c.args.chunk.now c.loop-index.index 0 c.loop-index-test.true in
    get_or_from_slice_get _ c.loop-index.index _ _ (c.read_numbers-numbers.ensures c.loop-index.index _ here)

pub loop-index-preserved : goal.loop-index-preserved
loop-index-preserved c =
    passing_on _ _ c.loop-index.into.items _ (_ ∷ []) _ _ c.in_ok-push_if_settled.ensures (drop_more c.args.chunk.now c.loop-index.index 0 c.loop-index-test.true) ∙ c.loop-index.invariant
