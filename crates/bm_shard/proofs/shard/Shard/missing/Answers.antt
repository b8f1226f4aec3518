use Rattle.std.proofs.Common.{◌≡◌, subst, sym}
use Rattle.std.specs.Prelude.{IfOk}
use Rattle.bm_base.specs.Machine.Queries.{missing_blocks}
use Rattle.bm_arena.specs.Contents.{IsLawful}
use Rattle.bm_shard.specs.ShardView.{Seen}
use Rattle.bm_shard.specs.UpToDate.{IsUpToDate}
use Rattle.bm_shard.proofs.Levels.{right_by_slot}
use Rattle.bm_shard.proofs.shard.Shard.missing.Goals as goal

pub returns-clause-missing : goal.returns-clause-missing
returns-clause-missing c C up_to_date =
    let P : Seen → Type 0 = λ s. IsUpToDate C s in
    let Q : Seen → Type 0 = λ s. IfOk c.missing_blocks.result (λ v. v ≡ missing_blocks C s.holdings) in
    let blocks = c.self.inside.blocks in
    let pending = c.self.inside.pending.map in
    let right = right_by_slot C blocks pending (subst (λ a. IsLawful a) c.arena.ensures c.show_invariant-2.ensures) c.show_invariant.ensures (subst P (sym c.self.view_is) up_to_date).levels in
    subst Q c.self.view_is (c.missing_blocks.ensures.missing C right pending)
