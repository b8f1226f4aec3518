use Rattle.std.proofs.Common.{◌≡◌, ◌∙◌, Some, None, sym, ap}
use Rattle.std.specs.Prelude.{nat_eq}
use Rattle.std.specs.Map.{lookup}
use Rattle.bm_base.specs.Words.{get, as_stray}
use Rattle.bm_base.proofs.MapEntries.{get_taken}
use Rattle.bm_arena.specs.Contents.{slot_of}
use Rattle.bm_arena.specs.HeldMaps.{blocks_of, info_at}
use Rattle.bm_levels.proofs.RevisedHoldings.{remove_absent, block_absent, replicas_absent, known_at, entry_left}
use Rattle.bm_levels.proofs.UnusedEntries.{unused_changed}
use Rattle.bm_levels.proofs.leveled_blocks.LeveledBlocks.delete_block.Goals as goal

pub returns-in_default-clause-blocks : goal.returns-in_default-clause-blocks
returns-in_default-clause-blocks c = let a = c.args.self.now.arena in remove_absent (blocks_of a) c.args.id (block_absent a c.args.id (sym c.in_default.ensures))

pub returns-in_default-clause-replicas : goal.returns-in_default-clause-replicas
returns-in_default-clause-replicas c = replicas_absent c.args.self.now.arena c.args.id as_stray (sym c.in_default.ensures)

pub returns-in-Some-clause-entry : goal.returns-in-Some-clause-entry
returns-in-Some-clause-entry c =
    let id = c.args.id in
    let slot = c.in-Some.slot in
    let a = c.args.self.now.arena in
    let b = c.change_block.new.self.arena in
    let here = sym c.in-Some.ensures in
    let still : slot_of b id ≡ Some slot = ap (λ l. lookup (nat_eq id) l) c.change_block.ensures.rest.ids ∙ here in
    let unknown : info_at b slot ≡ None = sym (known_at b id slot still) ∙ ap (λ m. get m id) (c.change_block.ensures.blocks id here) ∙ get_taken (blocks_of a) id in
    entry_left b c.drop_if_unused.new.self.arena id slot still c.drop_if_unused.ensures.replicas (λ none. c.drop_if_unused.ensures.gone id still none unknown)

pub returns-in-Some-clause-unused : goal.returns-in-Some-clause-unused
returns-in-Some-clause-unused c =
    let d = c.drop_if_unused.ensures in
    unused_changed c.args.self.now.arena c.change_block.new.self.arena c.drop_if_unused.new.self.arena c.in-Some.slot c.change_block.ensures.rest.ids c.change_block.ensures.rest.blocks d.blocks d.replicas d.numbers d.gone
