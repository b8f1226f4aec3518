use Rattle.std.proofs.Common.{◌≡◌, true, ap, ◌∙◌, subst, nat_eq}
use Rattle.std.specs.Prelude.{IsSome}
use Rattle.std.specs.List.{IsDistinct}
use Rattle.bm_base.specs.Words.{get, has}
use Rattle.bm_pending.specs.PendingMap.{PendingMap, blocks_in}
use Rattle.bm_pending.proofs.ByIndices.{places-seen, index-had, keys-seen}
use Rattle.bm_pending.proofs.pending_transfers.PendingTransfers.show_invariant.Goals as goal

pub returns-clause-listed : goal.returns-clause-listed
returns-clause-listed c q =
    let P : PendingMap → Type 0 = λ p. IsSome (get p.map q) → has (blocks_in p) q.block ≡ true in
    subst P c.self.view_is (λ some. ap (λ ks. has ks q.block) (places-seen c.self.inside.by_block.entries) ∙ index-had c.self.inside.by_block.entries q some)

pub returns-clause-once : goal.returns-clause-once
returns-clause-once c = subst (IsDistinct nat_eq) (keys-seen c.self.inside.by_block.entries c.args.self.now c.self.view_is) c.len.ensures.unique
