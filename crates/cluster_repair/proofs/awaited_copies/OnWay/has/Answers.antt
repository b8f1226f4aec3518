use Rattle.std.proofs.Common.{◌∙◌, ℕ, ap}
use Rattle.cluster_repair.specs.Copies.{is_copy_of, holds_target}
use Rattle.cluster_repair.proofs.CopyLemmas.{there_if_once}
use Rattle.cluster_repair.proofs.awaited_copies.OnWay.has.Goals as goal

pub returns : goal.returns
returns c =
    let t = c.args.transfer.now in
    let targets = c.args.self.now.targets in
    c.contains.ensures ∙ ap (λ (q : ℕ × ℕ). holds_target targets q.0 q.1) c.key_of.ensures
    ∙ there_if_once (is_copy_of t.block t.target) c.args.self.now.sent.items (holds_target targets t.block t.target) (c.args.self.now.once t.block t.target)
