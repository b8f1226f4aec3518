-- What a transfer copies.
use Rattle.std.specs.Prelude.{◌≡◌, true, List}
use Rattle.std.specs.List.{Contains}
use Rattle.bm_base.specs.declared.commands.Transfer.{Transfer}
use Rattle.bm_base.specs.declared.round.Wish.{Wish}
use Rattle.bm_base.specs.Maps.Lists.{has}
use Rattle.bm_base.specs.Choices.{sources_by}

-- a transfer for one of these wishes: of its block with its stamp, from one of the wish's
-- sources
abbrev pub IsCopyOf : List Wish → Transfer → Type 0
IsCopyOf ws t = (w : Wish) × Contains ws w × (t.block ≡ w.block) × (t.stamp ≡ w.stamp) × (has (sources_by w) t.source ≡ true)
