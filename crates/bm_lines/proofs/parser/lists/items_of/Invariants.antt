use Rattle.std.proofs.Common.{◌≡◌, ◌++◌, drop, option_map}
use Rattle.std.specs.Prelude.{map}
use Rattle.serde_json.specs.View.{view}
use Rattle.bm_lines.specs.Parser.Fields.{each}
use Rattle.bm_lines.proofs.parser.lists.items_of.Given as goal

-- the items so far, and those of the values that are left, are those of all
abbrev pub invariant-loop-value : goal.invariant-loop-value
invariant-loop-value g l =
    option_map (λ ys. l.items.items ++ ys) (each g.T.Item.item_in (map view (drop l.value-index l.values))) ≡ each g.T.Item.item_in (map view l.values)
