use Rattle.std.proofs.Common.{subst, sym}
use Rattle.bm_arena.specs.Contents.{IsLawful}
use Rattle.bm_levels.specs.SlotHoldings.{holdings_with}
use Rattle.bm_shard.specs.ShardView.{Seen}
use Rattle.bm_shard.specs.UpToDate.{IsUpToDate}
use Rattle.bm_shard.proofs.Levels.{right_by_slot}
use Rattle.bm_shard.proofs.shard.Shard.round_part_before.Goals as goal

pub find_round-requires-clause-levels : goal.find_round-requires-clause-levels
find_round-requires-clause-levels c =
    let v = c.self.inside in
    let C = c.args.topology.now.cluster in
    let P : Seen → Type 0 = λ s. IsUpToDate C s in
    right_by_slot C v.blocks v.pending.map (subst (λ a. IsLawful a) c.arena.ensures c.show_invariant-2.ensures) c.show_invariant.ensures (subst P (sym c.self.view_is) c.requires.up_to_date).levels

pub find_round-requires-clause-stored : goal.find_round-requires-clause-stored
unfolding holdings_with
find_round-requires-clause-stored c =
    let P : Seen → Type 0 = λ s. IsUpToDate c.args.topology.now.cluster s in
    (subst P (sym c.self.view_is) c.requires.up_to_date).placed.stored
