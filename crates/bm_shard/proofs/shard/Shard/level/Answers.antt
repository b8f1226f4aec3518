use Rattle.std.proofs.Common.{ap, subst, sym, ◌∙◌}
use Rattle.bm_base.specs.Machine.Levels.{level}
use Rattle.bm_arena.specs.Contents.{IsLawful}
use Rattle.bm_shard.specs.ShardView.{Seen}
use Rattle.bm_shard.specs.UpToDate.{IsUpToDate}
use Rattle.bm_shard.proofs.Levels.{right_by_slot}
use Rattle.bm_shard.proofs.shard.Shard.level.Goals as goal

pub returns-clause-level : goal.returns-clause-level
returns-clause-level c C up_to_date =
    let P : Seen → Type 0 = λ s. IsUpToDate C s in
    let blocks = c.self.inside.blocks in
    let pending = c.self.inside.pending.map in
    let right = right_by_slot C blocks pending (subst (λ a. IsLawful a) c.arena.ensures c.show_invariant-2.ensures) c.show_invariant.ensures (subst P (sym c.self.view_is) up_to_date).levels in
    c.level.ensures C right pending ∙ ap (λ s. level C s.holdings c.args.id) c.self.view_is
