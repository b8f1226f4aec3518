use Rattle.std.proofs.Common.{sym, ◌∙◌}
use Rattle.bm_maps.proofs.BinarySearch.{find_read, find_none, find_past}
use Rattle.bm_maps.proofs.sorted_entries.find_at.Goals as goal
use Rattle.bm_maps.proofs.sorted_entries.find_at.Goals.{then-at-entries+in_default, else-at-entries}

pub returns-in-Equal : goal.returns-in-Equal
returns-in-Equal g c =
    sym (find_read g.K.Ord.cmp g.met.K.Ord.total c.args.key.now c.args.entries.now c.args.at _ _ c.requires.at c.if-at-entries.true (sym c.cmp.ensures ∙ c.in-Equal.is))

pub returns : goal.returns
returns g c =
    sym (elim c.if-at-entries.branch [
      | then-at-entries+in_default w ↦
          find_none g.K.Ord.cmp g.met.K.Ord.total c.args.key.now c.args.entries.now c.args.at _ c.requires.at c.requires.sorted (λ lt tie. w.in_default.not-Equal (w.cmp.ensures ∙ tie))
      | else-at-entries w ↦ find_past g.K.Ord.cmp g.met.K.Ord.total c.args.key.now c.args.entries.now c.args.at c.requires.at c.requires.sorted w.if-at-entries.false
    ])
