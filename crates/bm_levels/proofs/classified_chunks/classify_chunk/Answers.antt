use Rattle.std.proofs.Common.{◌≡◌, ◌<◌, ◌+◌, ℕ, Some, length, inl, inr, sym, subst, ◌∙◌, arith, get_or-set_same}
use Rattle.std.specs.Prelude.{slice_get, slice_set, slice_index_or}
use Rattle.std.proofs.Math.ListN.{length-set}
use Rattle.std.proofs.lemmas.Bool.{cases_eq}
use Rattle.std.proofs.lemmas.List.{get_or-set_other}
use Rattle.std.proofs.lemmas.Option.{get_or_from_slice_get, slice_get_within}
use Rattle.bm_base.specs.Machine.Replicas.{rack_of}
use Rattle.bm_arena.specs.Contents.{block_at}
use Rattle.bm_levels.specs.declared.classification.BlockStatus.{BlockStatus}
use Rattle.bm_levels.specs.Status.{drains_after_change}
use Rattle.bm_levels.specs.IndexedLevels.{IsStatusOf}
use Rattle.bm_levels.specs.ClusterAfter.{IsStatusAfter}
use Rattle.bm_levels.proofs.classified_chunks.classify_chunk.Goals as goal

read_on : (c : goal.After-classify) → (i : ℕ) → i < c.loop-index.index + 1 → (slot : ℕ) (default : BlockStatus) → slice_get c.args.chunk.now i ≡ Some slot
    → IsStatusAfter c.args.cluster_after.now (block_at c.args.arena.now slot)
    (slice_index_or (slice_set c.loop-index.status c.loop-index.index c.classify.result) i default)
read_on c i below slot default is =
    let C = c.args.cluster_after.now.topology.now.cluster in
    let P : ℕ → BlockStatus → Type 0 = λ z j. IsStatusOf (rack_of C) (drains_after_change C c.args.cluster_after.now.drain_change) c.args.cluster_after.now.multi (block_at c.args.arena.now z) j in
    elim (cases_eq i c.loop-index.index) [
      | inl here ↦
          let capacity : c.loop-index.index < length c.loop-index.status = omega (arith, c.loop-index.invariant.whole) in
          let same : slice_index_or c.args.chunk.now c.loop-index.index 0 ≡ slot = get_or_from_slice_get c.args.chunk.now c.loop-index.index slot 0 (rw here at is) in
          rw here (subst (λ z. P z (slice_index_or (slice_set c.loop-index.status c.loop-index.index c.classify.result) c.loop-index.index default)) same
          (subst (P (slice_index_or c.args.chunk.now c.loop-index.index 0)) (sym (get_or-set_same c.loop-index.status c.loop-index.index c.classify.result default capacity))
          (record { level = c.classify.ensures.level; settled = c.classify.ensures.settled })))
      | inr differs ↦
          let less : i < c.loop-index.index = omega arith in
          subst (P slot) (sym (get_or-set_other c.loop-index.status c.loop-index.index i c.classify.result default differs)) (c.loop-index.invariant.read i less slot default is)
    ]

pub loop-index-preserved : goal.loop-index-preserved
loop-index-preserved c = record {
  whole = length-set c.loop-index.status c.loop-index.index c.classify.result ∙ c.loop-index.invariant.whole;
  read = read_on c;
}

pub returns : goal.returns
returns c i slot default is =
    let low = slice_get_within c.args.chunk.now i slot is in
    c.loop-index.invariant.read i (omega arith) slot default is
