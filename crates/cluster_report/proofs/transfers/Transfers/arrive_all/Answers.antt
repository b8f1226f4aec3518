use Rattle.std.proofs.Common.{ap, rules, ℕ, Bool, ◌∙◌, ◌==◌, ◌&&◌, not, sym}
use Rattle.std.specs.Prelude.{nat_le}
use Rattle.std.specs.List.{list_any}
use Rattle.bm_base.specs.Words.{keep, by_replica}
use Rattle.cluster_report.proofs.NamedNumbers.{named_in}
use Rattle.cluster_report.proofs.TreeMaps.{kept}
use Rattle.cluster_report.proofs.transfers.Transfers.arrive_all.Goals as goal

pub returns-clause-copies : goal.returns-clause-copies
returns-clause-copies c =
    let named : ℕ → Bool = λ b. list_any (λ x. nat_le x.from b && nat_le b x.to) c.args.entries.now in
    kept by_replica c.self.inside.rounds _ (ap (λ t. t.copies) c.self.view_is) c.self.invariant c.retain.new.self c.retain.ensures.ordered
    (λ q _. not ((q.storage == c.args.storage) && named q.block)) _ _ (λ k v b w f' t. search rules) c.retain.ensures.filtered
    ∙ (λ i. keep c.args.self.now.copies (λ q r. not ((q.storage == c.args.storage) && sym (named_in c.args.entries.now q.block) i)))
