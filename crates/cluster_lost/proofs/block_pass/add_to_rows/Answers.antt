use Rattle.std.proofs.Common.{◌≡◌, ◌∙◌, ◌-◌, ◌+◌, ◌^◌, List, take, sym, ap, subst}
use Rattle.cluster_lost.specs.Sources.{left_without}
use Rattle.cluster_lost.specs.Rows.{AreAdded, IsAddedAt, with_row_block}
use Rattle.cluster_lost.specs.declared.sources.Source.{Source}
use Rattle.cluster_lost.specs.declared.block_pass.RowTally.{RowTally}
use Rattle.cluster_lost.proofs.RowLemmas.{rows_within, added_none, added_more}
use Rattle.cluster_lost.proofs.block_pass.add_to_rows.Goals.{in-Some+in_ok-left+in_ok-add_to_row, in_default}
use Rattle.cluster_lost.proofs.block_pass.add_to_rows.Goals as goal

pub add_to_row-requires-clause-small : goal.add_to_row-requires-clause-small
add_to_row-requires-clause-small c =
    rows_within (2 ^ 59 - 1) c.args.info.now c.args.block c.args.sources.now _ c.args.rows.now.items c.loop-index.rows.items c.requires.few c.requires.small c.loop-index.invariant

pub loop-index-preserved : goal.loop-index-preserved
loop-index-preserved c =
    let i = c.args.info.now in
    let b = c.args.block in
    let us = c.args.sources.now in
    let old = c.args.rows.now.items in
    let j = c.loop-index.index in
    elim c.match-first_row.branch [
      | in-Some+in_ok-left+in_ok-add_to_row w ↦
          subst (λ rs. AreAdded i b us (take (j + 1) us) old rs.items) (sym w.rows-is)
          (added_more i b us old j c.loop-index-test.true w.as_slice.result.now c.loop-index.rows.items w.add_to_row.new.rows.items w.in-Some.row
          (sym c.first_row.ensures ∙ w.in-Some.is) (w.as_slice.ensures.value ∙ w.in_ok-left.ensures) c.loop-index.invariant w.in_ok-add_to_row.ensures)
      | in_default w ↦
          subst (λ rs. AreAdded i b us (take (j + 1) us) old rs.items) (sym w.rows-is)
          (added_none i b us old j c.loop-index-test.true c.loop-index.rows.items (sym c.first_row.ensures ∙ w.in_default.is) c.loop-index.invariant)
    ]
