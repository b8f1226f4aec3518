use Rattle.std.proofs.Common.{◌≡◌, length, inl, inr, refl, sym, ap, subst, ◌∙◌, arith}
use Rattle.std.specs.Prelude.{slice_get}
use Rattle.std.specs.Prelude.{IsSome}
use Rattle.std.proofs.lemmas.Bool.{cases_eq}
use Rattle.std.proofs.lemmas.Option.{same_Some, slice_get_read}
use Rattle.bm_base.specs.Machine.Replicas.{are_siblings}
use Rattle.bm_arena.specs.declared.arena.Triplet.{Triplet}
use Rattle.bm_arena.specs.Contents.{block_at, marks_at}
use Rattle.bm_report.proofs.ListedReplicas.{found-in, none-in}
use Rattle.bm_report.proofs.Siblings.{has_node}
use Rattle.bm_report.proofs.reported_block.sibling_of.Goals as goal

pub returns-in_default-node_of-clause-none : goal.returns-in_default-node_of-clause-none
returns-in_default-node_of-clause-none c t sibling = absurd (has_node c.args.topology.now.cluster c.args.storage t (sym c.node_of.ensures ∙ c.in_default-node_of.is) sibling)

pub returns-then-is_sibling-clause-found : goal.returns-then-is_sibling-clause-found
returns-then-is_sibling-clause-found c =
    let read = slice_get_read c.in-Some.triplets.now (length c.in-Some.triplets.now) c.loop-triplet.triplet-index c.triplet-item.result refl c.loop-triplet-test.true c.triplet-item.is in
    let other : c.replica-other.result.0 ≡ c.triplet-item.result.storage = ap (λ r. r.0) c.replica-other.ensures in
    let here = found-in (block_at c.args.arena.now c.args.slot) c.in-Some.triplets.now c.loop-triplet.triplet-index c.triplet-item.result c.in-Some.ensures.replicas read in
    (subst (λ t. IsSome (marks_at c.args.arena.now c.args.slot t)) (sym other) here, sym c.is_sibling.ensures ∙ c.if-is_sibling.true)

pub loop-triplet-preserved : goal.loop-triplet-preserved
loop-triplet-preserved c k below t at =
    let read = slice_get_read c.in-Some.triplets.now (length c.in-Some.triplets.now) c.loop-triplet.triplet-index c.triplet-item.result refl c.loop-triplet-test.true c.triplet-item.is in
    elim (cases_eq k c.loop-triplet.triplet-index) [
      | inl is ↦
          let same : t ≡ c.triplet-item.result = same_Some t c.triplet-item.result (sym at ∙ ap (slice_get c.in-Some.triplets.now) is ∙ read) in
          ap (λ (x : Triplet). are_siblings c.args.topology.now.cluster c.args.storage x.storage) same
          ∙ sym (ap (λ r. are_siblings c.args.topology.now.cluster c.args.storage r.0) c.replica-other.ensures) ∙ sym c.is_sibling.ensures ∙ c.if-is_sibling.false
      | inr differs ↦ c.loop-triplet.invariant k (omega (arith, below, differs)) t at
    ]

pub returns-clause-none : goal.returns-clause-none
returns-clause-none c =
    none-in (are_siblings c.args.topology.now.cluster c.args.storage) (block_at c.args.arena.now c.args.slot) c.in-Some.triplets.now c.in-Some.ensures.replicas
    (λ k low x at. c.loop-triplet.invariant k (omega (arith, low, c.loop-triplet-test.false)) x at)
