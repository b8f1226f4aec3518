use Rattle.std.proofs.Common.{sym, subst, ◌∙◌}
use Rattle.std.specs.Slice.Iter.{chunks_rest}
use Rattle.bm_maps.specs.SlotLists.{IsMember}
use Rattle.bm_arena.proofs.Replicas.{IsMember-left}
use Rattle.bm_round_scan.proofs.PassingSlots.{passing_on}
use Rattle.bm_levels.proofs.StatusUpdates.{among_back}
use Rattle.bm_round_scan.proofs.scanned_slots.push_settled.Goals as goal

pub push_settled_chunk-requires-clause-level : goal.push_settled_chunk-requires-clause-level
push_settled_chunk-requires-clause-level c slot among =
    c.loop-chunk.invariant.level slot (subst (IsMember slot) (sym c.in-Some.ensures.steps.1.0) (IsMember-left slot c.in-Some.chunk.now (chunks_rest c.next.new.self) among))

pub loop-chunk-preserved : goal.loop-chunk-preserved
loop-chunk-preserved c =
    let chunk = c.in-Some.chunk.now in
    let left = chunks_rest c.next.new.self in
    let whole = c.in-Some.ensures.steps.1.0 in
    record {
      finite = tt;
      level = λ slot among. c.loop-chunk.invariant.level slot (subst (IsMember slot) (sym whole) (among_back slot chunk left among));
      all = passing_on _ _ c.loop-chunk.into.items _ chunk left _ c.in_ok-push_settled_chunk.ensures whole ∙ c.loop-chunk.invariant.all;
    }
