use Rattle.std.proofs.Common.{◌∙◌, sym, ap}
use Rattle.std.specs.Prelude.{option_map}
use Rattle.bm_maps.proofs.ReplaceLaws.{no_change}
use Rattle.bm_arena.specs.HeldMaps.{blocks_of, with_known}
use Rattle.bm_levels.specs.Changes.{with_repl}
use Rattle.bm_levels.proofs.RevisedHoldings.{known_revised, known_at, block_absent}
use Rattle.bm_levels.proofs.leveled_blocks.LeveledBlocks.set_replication.Goals as goal

pub returns-in-Some-clause-blocks : goal.returns-in-Some-clause-blocks
returns-in-Some-clause-blocks c =
    let a = c.args.self.now.arena in
    let f = with_repl c.args.repl in
    let here = sym c.in-Some.ensures in
    c.set_info.ensures.blocks c.args.id here
    ∙ ap (λ i. with_known (blocks_of a) c.args.id i) (c.with_replication-info.ensures ∙ ap (option_map f) (c.info_of.ensures ∙ sym (known_at a c.args.id c.in-Some.slot here)))
    ∙ known_revised (blocks_of a) c.args.id f

pub returns-in_default-clause-blocks : goal.returns-in_default-clause-blocks
returns-in_default-clause-blocks c = let a = c.args.self.now.arena in no_change (blocks_of a) c.args.id (with_repl c.args.repl) (block_absent a c.args.id (sym c.in_default.ensures))
