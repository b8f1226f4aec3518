use Rattle.std.proofs.Common.{sym, ap, set, Some, ◌∙◌}
use Rattle.bm_arena.proofs.Triplets.{find_triplet-index, find_triplet-no_index, change_triplet-index, change_triplet-no_index}
use Rattle.bm_arena.specs.Triplets.{as_first}
use Rattle.bm_arena.proofs.links.set_first_link.Goals as goal

pub returns-in-Some-clause-found : goal.returns-in-Some-clause-found
returns-in-Some-clause-found c =
    ap Some c.index-triplets-index.is
    ∙ sym (find_triplet-index c.args.triplets.now c.args.storage c.in-Some.index c.index-triplets-index.result (sym (c.in-Some.ensures))).1

pub returns-in-Some-clause-triplets : goal.returns-in-Some-clause-triplets
returns-in-Some-clause-triplets c =
    ap (set c.args.triplets.now c.in-Some.index) (c.as_first.ensures ∙ ap (as_first c.args.first) c.index-triplets-index.is)
    ∙ sym (change_triplet-index (as_first c.args.first) c.args.triplets.now c.args.storage c.in-Some.index c.index-triplets-index.result (sym (c.in-Some.ensures)))

pub returns-in-None-clause-found : goal.returns-in-None-clause-found
returns-in-None-clause-found c = sym (find_triplet-no_index c.args.triplets.now c.args.storage (sym (c.in-None.ensures)))

pub returns-in-None-clause-triplets : goal.returns-in-None-clause-triplets
returns-in-None-clause-triplets c =
    sym (change_triplet-no_index (as_first c.args.first) c.args.triplets.now c.args.storage (sym (c.in-None.ensures)))
