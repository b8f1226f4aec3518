use Rattle.std.proofs.Common.{sym, ◌∙◌, ap}
use Rattle.bm_view.proofs.Steps.{reserve_moves}
use Rattle.bm_view.proofs.journal.new_pen.Goals as goal

pub compare_exchange-requires : goal.compare_exchange-requires
compare_exchange-requires c =
    let seen = c.again-seen.ensures in
    let offer = c.plain-offer.ensures in
    let pen = c.no_pen-pen.ensures in
    let book = ap (λ s. s.book) seen ∙ sym (ap (λ w. w.book) c.requires) in (
      ap (λ w. w.tracked) c.requires,
      book,
      pen.0 ∙ book,
      offer.0,
      rw (ap (λ w. w.key) c.requires, pen.1, offer.3) (reserve_moves c.again-seen.result.log c.plain-offer.result.ask),
    )
