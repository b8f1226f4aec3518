use Rattle.std.proofs.Common.{ℕ, ◌==◌, map, filter, sym, ap, ◌∙◌}
use Rattle.bm_base.specs.Words.{Map, entries, by_replica, pending_targets}
use Rattle.bm_levels.specs.SlotHoldings.{holdings_with}
use Rattle.bm_shard.proofs.AfterRound.{same_without_capacity}
use Rattle.bm_shard.proofs.shard.Shard.round_abort.Goals as goal

pub returns-clause-same : goal.returns-clause-same
returns-clause-same c =
    let v = c.self.inside in
    same_without_capacity v.blocks v.pending.map c.release_unused.new.self.map c.release_unused.ensures.map v.part v.round v.pend _ _ c.args.self.now c.self.view_is

pub returns-clause-freed : goal.returns-clause-freed
unfolding pending_targets holdings_with
returns-clause-freed c b none =
    c.release_unused.ensures.freed b
    (ap (λ (m : Map by_replica ℕ). map (λ e. e.0.storage) (filter (λ e. e.0.block == b) (entries m))) (sym c.release_unused.ensures.map) ∙ none)
