use Rattle.bm_arena.proofs.Lawfulness.{IsLawful-arena}
use Rattle.std.proofs.Common.{ap, ◌∙◌, arith}
use Rattle.bm_arena.proofs.Entries.{IsArena-first, first_blocks}
use Rattle.bm_arena.proofs.Bounds.{below-inserted, below-empty}
use Rattle.bm_arena.proofs.HeldReplicas.{nothing-held}
use Rattle.bm_arena.proofs.arena.Arena.with_secret.Goals as goal

pub invariant_of-result : goal.invariant_of-result
invariant_of-result c =
    record {
      arena =
          IsArena-first c.reserve.new.self c.insert_reserved-delimiter.new.self c.insert_reserved-delimiter.result _ (ap (λ s. s.slots) c.in_ok-reserve.ensures.rest_kept ∙ c.new-slots.ensures.empty)
          c.insert_reserved-delimiter.ensures.updates c.new.ensures.items _ _ c.new-2.ensures c.with_hasher.ensures.empty (omega (arith, c.insert_reserved-delimiter.ensures.key, ap (λ s. s.vacant_key) c.in_ok-reserve.ensures.rest_kept, c.new-slots.ensures.first_key));
      bounded = below-inserted c.reserve.new.self c.insert_reserved-delimiter.new.self c.insert_reserved-delimiter.result 0 _ _ c.insert_reserved-delimiter.ensures.updates (omega arith) (below-empty c.reserve.new.self (ap (λ s. s.slots) c.in_ok-reserve.ensures.rest_kept ∙ c.new-slots.ensures.empty));
    }

pub returns-clause-blocks : goal.returns-clause-blocks
returns-clause-blocks c =
    first_blocks c.reserve.new.self c.insert_reserved-delimiter.new.self c.insert_reserved-delimiter.result _ (ap (λ s. s.slots) c.in_ok-reserve.ensures.rest_kept ∙ c.new-slots.ensures.empty)
    c.insert_reserved-delimiter.ensures.updates c.new.ensures.items

pub returns-clause-lawful : goal.returns-clause-lawful
returns-clause-lawful c = IsLawful-arena _ _ _ _ _ (invariant_of-result c) _

pub returns-clause-replicas : goal.returns-clause-replicas
returns-clause-replicas c = (nothing-held _ c.new-2.ensures).0

pub returns-clause-known : goal.returns-clause-known
returns-clause-known c = (nothing-held _ c.new-2.ensures).1
