use Rattle.std.proofs.Common.{◌≡◌, [], length, map-id, ap, sym, ◌∙◌, eqb-true}
use Rattle.std.proofs.lemmas.List.{nil_from_length}
use Rattle.bm_round_scan.specs.BlockMarks.{marked_on}
use Rattle.bm_round_scan.proofs.block_scan.BlockScan.mark.Goals as goal

pub returns-then-is_empty-clause-marked : goal.returns-then-is_empty-clause-marked
returns-then-is_empty-clause-marked c =
    let rs = c.args.self.now.replicas.items in
    let none : c.as_slice.result.now ≡ [] = nil_from_length _ (eqb-true (length c.as_slice.result.now) 0 (sym c.is_empty.ensures ∙ c.if-is_empty.true)) in
    sym (ap (λ ss. marked_on ss rs) (sym c.as_slice.ensures.value ∙ none) ∙ map-id rs)
