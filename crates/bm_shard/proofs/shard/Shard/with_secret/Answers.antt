use Rattle.std.proofs.Common.{subst}
use Rattle.bm_base.specs.Machine.State.{empty_holdings}
use Rattle.bm_arena.specs.Contents.{IsLawful}
use Rattle.bm_levels.specs.SlotHoldings.{holdings_with}
use Rattle.bm_shard.proofs.Levels.{right_by_number}
use Rattle.bm_shard.proofs.EmptyHoldings.{none_placed}
use Rattle.bm_shard.proofs.UnusedEntries.{none_outside}
use Rattle.bm_shard.proofs.shard.Shard.with_secret.Goals as goal

pub returns-clause-empty : goal.returns-clause-empty
unfolding holdings_with empty_holdings
returns-clause-empty c = λ i. record { blocks = c.in_ok-blocks.ensures.blocks i; replicas = c.in_ok-blocks.ensures.replicas i; pending = c.new-2.ensures.map i }

pub returns-clause-up_to_date : goal.returns-clause-up_to_date
unfolding holdings_with
returns-clause-up_to_date c C = record {
  levels = right_by_number C c.in_ok-blocks.blocks c.new-2.result.map (subst (λ a. IsLawful a) c.arena.ensures c.show_invariant.ensures) (c.in_ok-blocks.ensures.levels C);
  placed = none_placed C (holdings_with c.in_ok-blocks.blocks.arena c.new-2.result.map) c.in_ok-blocks.ensures.replicas;
}

pub returns-clause-unused : goal.returns-clause-unused
returns-clause-unused c = none_outside c.in_ok-blocks.blocks c.new-2.result.map _ _ _ _ _ c.in_ok-blocks.ensures.unused
