use Rattle.std.proofs.Common.{◌≡◌, ℕ, List, ap, sym, subst, map, ◌++◌, ◌∙◌, length, arith}
use Rattle.std.specs.Prelude.{OnOk}
use Rattle.bm_pending.proofs.GroupedTransfers.{targets-seen, count-seen}
use Rattle.bm_pending.proofs.pending_transfers.PendingTransfers.push_targets.Goals as goal

pub returns-clause-items : goal.returns-clause-items
returns-clause-items c =
    let seen = targets-seen c.self.inside.by_block.entries c.block.inside.0 c.self.invariant.ascending in
    rw (← c.self.view_is, ← c.block.view_is)
    (subst (λ (xs : List ℕ). OnOk c.push_storages.result (c.push_storages.new.into.items ≡ c.args.into.now.items ++ xs)) (ap (map (λ (t : ℕ × ℕ). t.0)) c.list_targets.ensures ∙ sym seen) c.push_storages.ensures.items)

pub returns-clause-succeeds : goal.returns-clause-succeeds
returns-clause-succeeds c capacity =
    let count = count-seen c.self.inside.by_block.entries c.block.inside.0 c.self.invariant.ascending in
    let shown = rw (← c.self.view_is, ← c.block.view_is) at capacity in
    c.push_storages.ensures.succeeds (omega (arith, ap length c.list_targets.ensures, count, shown))
