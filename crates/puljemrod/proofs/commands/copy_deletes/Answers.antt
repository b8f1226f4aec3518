use Rattle.std.proofs.Common.{◌≡◌, ◌+◌, ◌++◌, arith, ap, sym, flat_map, map, take, length, length-append, ◌∙◌}
use Rattle.std.proofs.lemmas.List.{length-map}
use Rattle.puljemrod.specs.CommandRows.{delete_row, deletes_for}
use Rattle.puljemrod.proofs.RowLists.{one_node, flat_more}
use Rattle.puljemrod.proofs.commands.copy_deletes.Goals as goal

pub loop-one-preserved : goal.loop-one-preserved
loop-one-preserved c =
    let inv = c.loop-one.invariant in
    let row = delete_row c.one-item.result.node in
    let items = c.as_slice-deletes.result.now in
    let all = flat_map deletes_for (take c.loop-one.one-index c.args.nodes.now) in
    let more : flat_map deletes_for (take (c.loop-one.one-index + 1) c.args.nodes.now) ≡ all ++ map row items =
    flat_more deletes_for c.args.nodes.now c.loop-one.one-index c.one-item.result (omega arith) ∙ ap (λ x. all ++ deletes_for x) (sym c.one-item.is) ∙ ap (λ l. all ++ map row l) (sym c.as_slice-deletes.ensures) in
    let copied = one_node row items c.args.out.now c.loop-one.out c.copy_rows-count.new.out all _ c.args.from c.loop-one.left c.loop-one.count c.copy_rows-count.result more inv.count inv.out inv.left c.copy_rows-count.ensures.count c.copy_rows-count.ensures.copied in
    record {
      left = omega (arith, c.saturating_sub-left.ensures, inv.left, ap length more, length-append all (map row items), length-map items row);
      count = copied.0;
      out = copied.1;
    }
