use Rattle.std.proofs.Common.{arith, get_or, ◌≡◌, ◌<◌, length}
use Rattle.std.proofs.lemmas.List.{get_or_default}
use Rattle.puljemrod.proofs.LocatedRows.{any_row, put_one}
use Rattle.puljemrod.proofs.locate.copy_good.Goals as goal

pub loop-at-preserved : goal.loop-at-preserved
loop-at-preserved c =
    let put = c.put_good-count in
    let rows = c.args.rows.now in
    let at = c.loop-at.at in
    let within : at < length rows = omega arith in
    let row = get_or rows at any_row in
    let is : row ≡ get_or rows at row = get_or_default rows at any_row row within in
    put_one rows at row c.args.out.now c.loop-at.out put.new.out c.loop-at.count put.result within is (put.ensures.put row is) put.ensures.full (put.ensures.other row is) c.loop-at.invariant
