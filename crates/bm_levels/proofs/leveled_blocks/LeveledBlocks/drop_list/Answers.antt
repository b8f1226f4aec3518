use Rattle.std.proofs.Common.{ap, ◌∙◌}
use Rattle.bm_arena.specs.HeldMaps.{replicas_of, blocks_of}
use Rattle.bm_levels.specs.LeveledBlocks.{Leveled}
use Rattle.bm_levels.proofs.LeavingReplicas.{other_lists}
use Rattle.bm_levels.proofs.leveled_blocks.LeveledBlocks.drop_list.Goals as goal

pub returns-clause-blocks : goal.returns-clause-blocks
returns-clause-blocks c = (other_lists c.self.inside.arena c.drop_head.new.self c.drop_head.ensures.after).1 ∙ ap (λ (v : Leveled). blocks_of v.arena) c.self.view_is

pub returns-clause-replicas : goal.returns-clause-replicas
returns-clause-replicas c = (other_lists c.self.inside.arena c.drop_head.new.self c.drop_head.ensures.after).0 ∙ ap (λ (v : Leveled). replicas_of v.arena) c.self.view_is
