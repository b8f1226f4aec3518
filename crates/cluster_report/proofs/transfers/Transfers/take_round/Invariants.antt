use Rattle.std.proofs.Common.{◌≡◌, ◌-◌, not, take}
use Rattle.std.specs.Prelude.{nat_le}
use Rattle.std.specs.List.{flat_map}
use Rattle.bm_base.specs.Maps.Map.{keep, insert_all}
use Rattle.cluster_report.specs.Copies.{commanded_to}
use Rattle.cluster_report.proofs.transfers.Transfers.take_round.Given as goal

abbrev pub invariant-loop-node : goal.invariant-loop-node
invariant-loop-node l = record {
  copies : l.self.copies ≡ insert_all (keep l.fn.self.copies (λ _ r. not (nat_le l.fn.self.pend (l.commands.round - r)))) (flat_map (commanded_to l.commands.round) (take l.node-index l.commands.nodes));
  pend : l.self.pend ≡ l.fn.self.pend;
}
