use Rattle.std.proofs.Common.{subst, sym}
use Rattle.bm_maps.specs.SlotLists.{IsMember}
use Rattle.bm_levels.specs.IndexedLevels.{IndexedLevels}
use Rattle.bm_levels.proofs.level_index.LevelIndex.next_unsettled.Goals as goal

pub next-requires : goal.next-requires
next-requires c = let P : IndexedLevels → Type 0 = λ K. IsMember c.args.slot K.unsettled.slots in c.show_invariant.ensures.lawful.below c.args.slot (subst P (sym c.self.view_is) c.requires)
