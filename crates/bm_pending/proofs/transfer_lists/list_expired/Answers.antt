use Rattle.std.proofs.Common.{◌++◌, ℕ, List, [], filter, take, get_or, ap, sym, ◌∙◌, arith}
use Rattle.std.specs.List.{flat_map}
use Rattle.std.proofs.lemmas.List.{take_more, take_all, flat_map_more}
use Rattle.bm_base.specs.declared.replica.ReplicaId.{ReplicaId}
use Rattle.bm_base.specs.Machine.RoundStart.{is_expired}
use Rattle.bm_pending.specs.Inside.{targets_at}
use Rattle.bm_pending.proofs.SortedTransfers.{ascending_from, named, all-expired}
use Rattle.bm_pending.proofs.transfer_lists.list_expired.Goals as goal

pub loop-block-preserved : goal.loop-block-preserved
loop-block-preserved c =
    let old : List (ℕ × ℕ) → List (ℕ × ℕ) = λ ts. filter (λ t. is_expired c.args.pend c.args.round t.1) ts in
    let f : ℕ → List ReplicaId = λ b. named b (old (targets_at c.args.blocks.now.entries b)) in
    let b : ℕ = get_or c.deref-block-items.result.now c.loop-block.block-index 0 in
    c.in_ok-push_expired.ensures.items
    ∙ (λ j. c.loop-block.invariant j ++ named b (old (c.list_targets.ensures j)))
    ∙ flat_map_more f [] (take c.loop-block.block-index c.deref-block-items.result.now) b
    ∙ ap (flat_map f) (sym (take_more c.deref-block-items.result.now c.loop-block.block-index 0 (omega (arith, c.loop-block-test.true, c.deref-block-items.ensures.len))))

pub returns-clause-items : goal.returns-clause-items
returns-clause-items c =
    let old : List (ℕ × ℕ) → List (ℕ × ℕ) = λ ts. filter (λ t. is_expired c.args.pend c.args.round t.1) ts in
    let f : ℕ → List ReplicaId = λ b. named b (old (targets_at c.args.blocks.now.entries b)) in
    let ks : List ℕ = c.in_ok-numbers.numbers.items in
    c.loop-block.invariant
    ∙ ap (flat_map f) (take_all c.loop-block.block-index c.deref-block-items.result.now (omega (arith, c.loop-block-test.false, c.deref-block-items.ensures.len)) ∙ c.deref-block-items.ensures.value)
    ∙ all-expired c.args.blocks.now.entries c.requires c.args.pend c.args.round ks (ascending_from ks c.in_ok-numbers.ensures.ascending c.in_ok-numbers.ensures.distinct) c.in_ok-numbers.ensures.absent
