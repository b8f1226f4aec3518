use Rattle.std.proofs.Common.{sym, ap, Some, ◌∙◌}
use Rattle.bm_arena.proofs.Triplets.{find_triplet-index, find_triplet-no_index}
use Rattle.bm_arena.proofs.links.search_triplets.Goals as goal

pub returns-in-Some : goal.returns-in-Some
returns-in-Some c =
    ap Some c.index-triplets-index.is
    ∙ sym (find_triplet-index c.args.triplets.now c.args.storage c.in-Some.index c.index-triplets-index.result (sym (c.in-Some.ensures))).1

pub returns-in-None : goal.returns-in-None
returns-in-None c =
    sym (find_triplet-no_index c.args.triplets.now c.args.storage (sym (c.in-None.ensures)))
