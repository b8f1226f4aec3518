use Rattle.std.proofs.Common.{◌∙◌, ℕ, true, cond, ap}
use Rattle.std.specs.Prelude.{◌==◌, ◌&&◌}
use Rattle.cluster_repair.specs.Copies.{holds_target}
use Rattle.cluster_repair.proofs.CopyLemmas.{once_with}
use Rattle.cluster_repair.proofs.awaited_copies.OnWay.add.Goals as goal

pub invariant_of-self-in-Ok : goal.invariant_of-self-in-Ok
invariant_of-self-in-Ok c = record {
  once = λ b t.
      once_with c.args.self.now.sent.items c.push.new.self.items _ b t (holds_target c.args.self.now.targets b t) (holds_target c.insert.new.self b t)
      c.in_ok-push.ensures.items c.requires (c.args.self.now.once b t)
      (c.in-Ok.ensures.updates.0 (b, t) ∙ ap (λ (q : ℕ × ℕ). cond ((q.0 == b) && (q.1 == t)) true (holds_target c.args.self.now.targets b t)) c.key_of.ensures);
}
