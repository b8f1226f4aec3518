use Rattle.std.proofs.Common.{◌∙◌, sym, ap}
use Rattle.std.specs.Prelude.{option_map}
use Rattle.bm_base.specs.Machine.Events.{as_restamped}
use Rattle.bm_maps.proofs.ReplaceLaws.{no_change}
use Rattle.bm_arena.specs.HeldMaps.{blocks_of, with_known}
use Rattle.bm_levels.specs.Changes.{with_stamp}
use Rattle.bm_levels.proofs.RevisedHoldings.{known_revised, known_at, block_absent, replicas_absent}
use Rattle.bm_levels.proofs.leveled_blocks.LeveledBlocks.restamp.Goals as goal

pub returns-in-Some-clause-blocks : goal.returns-in-Some-clause-blocks
returns-in-Some-clause-blocks c =
    let a = c.args.self.now.arena in
    let f = with_stamp c.args.stamp in
    let here = sym c.in-Some.ensures in
    c.change_block.ensures.blocks c.args.id here
    ∙ ap (λ i. with_known (blocks_of a) c.args.id i) (c.with_stamp-info.ensures ∙ ap (option_map f) (c.info_of.ensures ∙ sym (known_at a c.args.id c.in-Some.slot here)))
    ∙ known_revised (blocks_of a) c.args.id f

pub returns-in_default-clause-blocks : goal.returns-in_default-clause-blocks
returns-in_default-clause-blocks c = let a = c.args.self.now.arena in no_change (blocks_of a) c.args.id (with_stamp c.args.stamp) (block_absent a c.args.id (sym c.in_default.ensures))

pub returns-in_default-clause-replicas : goal.returns-in_default-clause-replicas
returns-in_default-clause-replicas c = replicas_absent c.args.self.now.arena c.args.id as_restamped (sym c.in_default.ensures)
