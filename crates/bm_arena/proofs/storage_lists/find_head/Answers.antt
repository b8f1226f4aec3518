use Rattle.std.proofs.Common.{sym}
use Rattle.bm_arena.proofs.HeadWrites.{found-at}
use Rattle.bm_arena.proofs.storage_lists.find_head.Goals as goal

pub returns-in-Some-get_full-clause-index : goal.returns-in-Some-get_full-clause-index
returns-in-Some-get_full-clause-index c =
    let i = c.in-Some-get_full.ensures.index in
    let e = c.in-Some-get_full.ensures.entry in
    found-at c.args.storage _ _ c.args.heads.now.entries c.in-Some-get_full.index (sym i) e
