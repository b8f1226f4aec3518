use Rattle.std.proofs.Common.{◌≡◌, None, ap, sym, ◌∙◌, arith}
use Rattle.std.specs.Prelude.{insert, length}
use Rattle.std.specs.FinMap.{find}
use Rattle.bm_maps.proofs.PutLaws.{put-set_read, put-insert_read, key_index-le}
use Rattle.bm_maps.proofs.BinarySearch.{find_none, find_past, not_there}
use Rattle.bm_maps.proofs.sorted_entries.put.Goals as goal
use Rattle.bm_maps.proofs.sorted_entries.put.Goals.{then-at-len+in_default, else-at-len}

pub returns-in-Equal-clause-ok : goal.returns-in-Equal-clause-ok
returns-in-Equal-clause-ok g c =
    put-set_read g.K.Ord.cmp c.args.key c.args.value c.args.entries.now.items c.args.at c.index_mut.result.now c.index.result.now
    (c.requires.at)
    (omega (arith, c.args.entries.now.ok.0)) c.index_mut.ensures.value c.index.ensures (sym c.in-Equal.ensures)

pub insert_reserved-requires-clause-at : goal.insert_reserved-requires-clause-at
insert_reserved-requires-clause-at g c =
    let e = c.requires.at in
    omega (arith, e, key_index-le g.K.Ord.cmp c.args.key c.args.entries.now.items, ap length c.in_ok-reserve.ensures.items)

pub insert_reserved-requires-clause-spare : goal.insert_reserved-requires-clause-spare
insert_reserved-requires-clause-spare g c = omega (arith, c.in_ok-reserve.ensures.ok)

pub returns-clause-ok : goal.returns-clause-ok
returns-clause-ok g c =
    let e = c.requires.at in
    let at = put-insert_read g.K.Ord.cmp c.args.key c.args.value c.args.entries.now.items c.args.at e in
    c.insert_reserved.ensures.items ∙ ap (λ es. insert es c.args.at (c.args.key, c.args.value)) c.in_ok-reserve.ensures.items ∙ elim c.if-at-len.branch [
      | then-at-len+in_default w ↦ at w.index.result.now (λ lt tie. w.in_default.not-Equal (w.cmp.ensures ∙ ap (λ z. g.K.Ord.cmp c.args.key z.0) w.index.ensures ∙ tie))
      | else-at-len w ↦ at (c.args.key, c.args.value) (λ lt tie. omega (arith, c.args.entries.now.ok.0))
    ]

-- capacity is requested only for a key that is not in the vector
pub returns-in_err-reserve-clause-known : goal.returns-in_err-reserve-clause-known
returns-in_err-reserve-clause-known g c known =
    let e = c.requires.at in
    let none : find g.K.Ord.cmp c.args.key c.args.entries.now.items ≡ None = elim c.if-at-len.branch [
      | then-at-len+in_default w ↦
          find_none g.K.Ord.cmp g.met.K.Ord.total c.args.key c.args.entries.now.items c.args.at w.index.result.now e c.requires.sorted
          (λ lt tie. w.in_default.not-Equal (w.cmp.ensures ∙ ap (λ z. g.K.Ord.cmp c.args.key z.0) w.index.ensures ∙ tie))
      | else-at-len w ↦ find_past g.K.Ord.cmp g.met.K.Ord.total c.args.key c.args.entries.now.items c.args.at e c.requires.sorted (omega (arith, w.if-at-len.false, c.args.entries.now.ok.0))
    ] in
    not_there _ none known

pub returns-clause-in_place : goal.returns-clause-in_place
returns-clause-in_place g c known =
    let e = c.requires.at in
    let none : find g.K.Ord.cmp c.args.key c.args.entries.now.items ≡ None = elim c.if-at-len.branch [
      | then-at-len+in_default w ↦
          find_none g.K.Ord.cmp g.met.K.Ord.total c.args.key c.args.entries.now.items c.args.at w.index.result.now e c.requires.sorted
          (λ lt tie. w.in_default.not-Equal (w.cmp.ensures ∙ ap (λ z. g.K.Ord.cmp c.args.key z.0) w.index.ensures ∙ tie))
      | else-at-len w ↦ find_past g.K.Ord.cmp g.met.K.Ord.total c.args.key c.args.entries.now.items c.args.at e c.requires.sorted (omega (arith, w.if-at-len.false, c.args.entries.now.ok.0))
    ] in
    not_there _ none known
