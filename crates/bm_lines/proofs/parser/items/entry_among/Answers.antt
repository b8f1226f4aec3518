use Rattle.std.proofs.Common.{refl}
use Rattle.bm_lines.proofs.ListLemmas.{three_values, four_values}
use Rattle.bm_lines.proofs.parser.items.entry_among.Goals as goal

pub returns-in-len3 : goal.returns-in-len3
returns-in-len3 c =
    let items = three_values c.args.items.now c.id-item.result c.generation-item.result c.len-item.result c.in-len3.len_at_least c.in-len3.len_below c.id-item.is c.generation-item.is c.len-item.is in
    rw (items, c.entry_from.ensures, c.stamp_from.ensures, c.as_u64.ensures, c.as_u64-in-len3.ensures, c.as_u64-in-len3-2.ensures, c.as_u64-in-len3-3.ensures) refl

pub returns-in-len4 : goal.returns-in-len4
returns-in-len4 c =
    let items = four_values c.args.items.now c.from-item.result c.to-item.result c.generation-item-then-items-lt5.result c.len-item-then-items-lt5.result c.in-len4.len_at_least c.in-len4.len_below
    c.from-item.is c.to-item.is c.generation-item-then-items-lt5.is c.len-item-then-items-lt5.is in
    rw (items, c.entry_from-in-len4.ensures, c.stamp_from-in-len4.ensures, c.as_u64-in-len4.ensures, c.as_u64-in-len4-2.ensures, c.as_u64-in-len4-3.ensures, c.as_u64-in-len4-4.ensures) refl
