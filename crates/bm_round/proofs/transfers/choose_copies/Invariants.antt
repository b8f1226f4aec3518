use Rattle.std.proofs.Common.{◌≡◌, ◌-◌, replicate}
use Rattle.bm_base.specs.Machine.State.{limits_of}
use Rattle.bm_base.specs.Choices.{transfers_over, sources_by, holders_by, excluded_by}
use Rattle.bm_round.specs.TransferCounts.{IsCounted}
use Rattle.bm_round.proofs.transfers.choose_copies.Given as goal

-- the remaining copies lead from the present choice to the choice that all copies make
abbrev pub invariant-loop-copy : goal.invariant-loop-copy
invariant-loop-copy l =
    let C = l.topology.cluster in
    let chosen = l.choice.transfers.items in
    record {
      whole : transfers_over (limits_of l.config) C chosen (replicate (l.wish.count - l._copy) l.wish) ≡ transfers_over (limits_of l.config) C l.fn.choice.transfers.items (replicate l.wish.count l.wish);
      counted : IsCounted C l.choice;
      sources : l.choice.sources.items ≡ sources_by l.wish;
      held : l.choice.held.items ≡ holders_by chosen l.wish;
      excluded : l.choice.excluded.items ≡ excluded_by chosen l.wish;
    }
