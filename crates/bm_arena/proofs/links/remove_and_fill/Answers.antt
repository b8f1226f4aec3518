use Rattle.std.proofs.Common.{sym, ap, position, Some, ◌∙◌}
use Rattle.bm_arena.proofs.Triplets.{fill_first-index, fill_first-no_index, find_triplet-index, find_triplet-no_index}
use Rattle.bm_arena.specs.Triplets.{is_of}
use Rattle.bm_arena.proofs.links.remove_and_fill.Goals as goal

pub returns-in-Some-clause-items : goal.returns-in-Some-clause-items
returns-in-Some-clause-items c =
    c.swap_remove.ensures.items
    ∙ fill_first-index (is_of c.args.storage) c.args.triplets.now.items c.in-Some.index _ (sym (c.in-Some.ensures ∙ ap (position (is_of c.args.storage)) c.as_slice.ensures))

pub returns-in-None-clause-items : goal.returns-in-None-clause-items
returns-in-None-clause-items c =
    sym (fill_first-no_index c.args.triplets.now.items c.args.storage (sym (c.in-None.ensures ∙ ap (position (is_of c.args.storage)) c.as_slice.ensures)))

pub returns-in-Some-clause-found : goal.returns-in-Some-clause-found
returns-in-Some-clause-found c =
    ap Some c.swap_remove.ensures.value
    ∙ sym (find_triplet-index c.args.triplets.now.items c.args.storage c.in-Some.index _ (sym (c.in-Some.ensures ∙ ap (position (is_of c.args.storage)) c.as_slice.ensures))).1

pub returns-in-None-clause-found : goal.returns-in-None-clause-found
returns-in-None-clause-found c =
    sym (find_triplet-no_index c.args.triplets.now.items c.args.storage (sym (c.in-None.ensures ∙ ap (position (is_of c.args.storage)) c.as_slice.ensures)))
