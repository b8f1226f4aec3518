use Rattle.std.proofs.Common.{ap, rules, ◌-◌, not}
use Rattle.std.specs.Prelude.{nat_le}
use Rattle.bm_base.specs.Words.{by_replica}
use Rattle.cluster_report.proofs.TreeMaps.{kept}
use Rattle.cluster_report.proofs.transfers.Transfers.drop_expired.Goals as goal

pub returns-clause-copies : goal.returns-clause-copies
returns-clause-copies c =
    kept by_replica c.self.inside.rounds _ (ap (λ t. t.copies) c.self.view_is) c.self.invariant c.retain.new.self c.retain.ensures.ordered
    (λ _ r. not (nat_le c.args.self.now.pend (c.args.round - r))) _ _ (λ k v b w f' t. search rules) c.retain.ensures.filtered
