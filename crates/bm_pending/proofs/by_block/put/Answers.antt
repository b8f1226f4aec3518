use Rattle.std.proofs.Common.{ℕ, length, arith, refl, ap, sym, ◌∙◌, get_or, set}
use Rattle.std.specs.Ordering.{nat_cmp}
use Rattle.std.proofs.lemmas.List.{length-set}
use Rattle.bm_maps.specs.KeyIndex.{key_index}
use Rattle.bm_maps.proofs.PutLaws.{put-set, put-insert_read, key_index-le}
use Rattle.bm_pending.proofs.Lists.{refill-same}
use Rattle.bm_pending.proofs.by_block.put.Goals as goal
use Rattle.bm_pending.proofs.by_block.put.Goals.{then-at-len+in_default, else-at-len}

pub returns-in-Equal-clause-items : goal.returns-in-Equal-clause-items
returns-in-Equal-clause-items c =
    let e = c.key_index-at.ensures ∙ ap (key_index nat_cmp c.args.storage) c.as_slice.ensures in
    let ws = c.as_mut_slice.ensures.value in
    let tie = sym (c.cmp.ensures ∙ (λ j. nat_cmp c.args.storage (get_or (c.as_slice-then-at-len.ensures j) (e j) (0, 0)).0)) ∙ c.in-Equal.is in
    refill-same _ c.args.targets.now.items _ refl (length-set c.as_mut_slice.result.now c.key_index-at.result _ ∙ ap length ws)
    ∙ (λ j. set (ws j) (e j) ((get_or (ws j) (e j) (0, 0)).0, c.args.round))
    ∙ put-set nat_cmp c.args.storage c.args.round c.args.targets.now.items (0, 0) (omega (arith, e, c.if-at-len.true, c.len.ensures.value)) tie

pub insert-requires : goal.insert-requires
insert-requires c =
    let e = c.key_index-at.ensures ∙ ap (key_index nat_cmp c.args.storage) c.as_slice.ensures in
    (omega arith, omega (arith, e, key_index-le nat_cmp c.args.storage c.args.targets.now.items))

pub returns-clause-items : goal.returns-clause-items
returns-clause-items c =
    let e = c.key_index-at.ensures ∙ ap (key_index nat_cmp c.args.storage) c.as_slice.ensures in
    let at = put-insert_read nat_cmp c.args.storage c.args.round c.args.targets.now.items c.key_index-at.result e in
    c.in-Ok.ensures.ok ∙ elim c.if-at-len.branch [
      | then-at-len+in_default w ↦ at (0, 0) (λ lt tie. w.in_default.not-Equal (w.cmp.ensures ∙ ap (λ xs. nat_cmp c.args.storage (get_or {A = ℕ × ℕ} xs c.key_index-at.result (0, 0)).0) w.as_slice-then-at-len.ensures ∙ tie))
      | else-at-len w ↦ at (c.args.storage, c.args.round) (λ lt tie. omega (arith, w.if-at-len.false, c.len.ensures.value, lt))
    ]
