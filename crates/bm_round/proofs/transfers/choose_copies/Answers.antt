use Rattle.std.specs.Global.{Vec}
use Rattle.bm_base.specs.declared.commands.Transfer.{Transfer}
use Rattle.std.proofs.Common.{◌-◌, replicate, ◌+◌, ◌++◌, ap, sym, ◌∙◌}
use Rattle.bm_base.specs.Machine.State.{limits_of}
use Rattle.bm_base.specs.Choices.{transfers_over, holders_by, excluded_by}
use Rattle.bm_round.specs.RoundCommands.{with_copies}
use Rattle.bm_round.proofs.WishCopies.{none_left, one_less, joined_more}
use Rattle.bm_round.proofs.transfers.choose_copies.Goals as goal

pub returns-then-not-has_source-clause-transfers : goal.returns-then-not-has_source-clause-transfers
returns-then-not-has_source-clause-transfers c =
    let C = c.args.topology.now.cluster in
    let limits = limits_of c.args.config.now in
    let w = c.args.wish.now in
    let chosen = c.begin_sources.new.self.transfers.items in
    sym (none_left limits C chosen w w.count (c.has_source.ensures limits c.if-not-has_source.true))
    ∙ ap (λ (ts : Vec Transfer). with_copies limits C ts.items w) c.begin_sources.ensures.transfers

pub returns-in_default-clause-transfers : goal.returns-in_default-clause-transfers
returns-in_default-clause-transfers c =
    let C = c.args.topology.now.cluster in
    let none = sym c.next_copy.ensures.transfer ∙ c.in_default.is in
    sym (none_left (limits_of c.args.config.now) C c.loop-copy.choice.transfers.items c.args.wish.now (c.args.wish.now.count - c.loop-copy._copy) none)
    ∙ c.loop-copy.invariant.whole

pub loop-copy-preserved : goal.loop-copy-preserved
loop-copy-preserved c =
    let C = c.args.topology.now.cluster in
    let limits = limits_of c.args.config.now in
    let w = c.args.wish.now in
    let t = c.in-Some.transfer in
    let chosen = c.loop-copy.choice.transfers.items in
    let is = sym c.next_copy.ensures.transfer ∙ c.in-Some.is in
    let block = c.in-Some.ensures.block in
    record {
      whole =
          ap (λ ts. transfers_over limits C ts (replicate (w.count - (c.loop-copy._copy + 1)) w)) c.in_ok-add.ensures.transfers
          ∙ sym (one_less limits C chosen w t w.count c.loop-copy._copy c.loop-copy-test.true is)
          ∙ c.loop-copy.invariant.whole;
      counted = c.in_ok-add.ensures.counted C c.loop-copy.invariant.counted;
      sources = ap (λ xs. xs.items) c.in_ok-add.ensures.sources ∙ c.loop-copy.invariant.sources;
      held =
          c.in_ok-add.ensures.held ∙ joined_more (w.live ++ w.pending) c.loop-copy.choice.held.items chosen t w.block block c.loop-copy.invariant.held
          ∙ ap (λ ts. holders_by ts w) (sym c.in_ok-add.ensures.transfers);
      excluded =
          c.in_ok-add.ensures.excluded ∙ joined_more (w.pairs ++ w.pending) c.loop-copy.choice.excluded.items chosen t w.block block c.loop-copy.invariant.excluded
          ∙ ap (λ ts. excluded_by ts w) (sym c.in_ok-add.ensures.transfers);
    }
