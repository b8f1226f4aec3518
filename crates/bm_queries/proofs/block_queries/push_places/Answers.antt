use Rattle.std.proofs.Common.{◌+◌, ◌++◌, drop, ap, sym, ◌∙◌, arith}
use Rattle.std.proofs.lemmas.List.{append-nil}
use Rattle.bm_base.specs.Machine.Replicas.{is_good}
use Rattle.bm_arena.specs.Contents.{block_at}
use Rattle.bm_arena.specs.HeldMaps.{replicas_at}
use Rattle.bm_levels.specs.Status.{storages_at}
use Rattle.bm_levels.proofs.Slots.{next_at, none_at, end_at}
use Rattle.bm_queries.proofs.AtSlot.{storage_put, storage_left}
use Rattle.bm_queries.proofs.block_queries.push_places.Goals as goal
use Rattle.bm_queries.proofs.block_queries.push_places.Goals.{in-Some+then-is_good+in_ok-push, in-Some+else-is_good, in_default}

pub loop-index-preserved : goal.loop-index-preserved
loop-index-preserved c =
    let o = block_at c.args.arena.now c.args.slot in
    let rs = drop c.loop-index.index (replicas_at c.args.arena.now c.args.slot) in
    let rest = drop (c.loop-index.index + 1) (replicas_at c.args.arena.now c.args.slot) in
    elim c.match-triplet_at.branch [
      | in-Some+then-is_good+in_ok-push w ↦
          let here = next_at o c.loop-index.index _ (sym w.in-Some.ensures) in
          ap (λ v. v.items ++ storages_at (λ _ m. is_good m.tag) rest) w.into-is
          ∙ ap (λ xs. xs ++ storages_at (λ _ m. is_good m.tag) rest) w.in_ok-push.ensures.items
          ∙ storage_put (λ _ m. is_good m.tag) rs rest _ here c.loop-index.into.items (sym w.is_good.ensures ∙ w.if-is_good.true)
          ∙ c.loop-index.invariant
      | in-Some+else-is_good w ↦
          let here = next_at o c.loop-index.index _ (sym w.in-Some.ensures) in
          ap (λ v. v.items ++ storages_at (λ _ m. is_good m.tag) rest) w.into-is
          ∙ storage_left (λ _ m. is_good m.tag) rs rest _ here c.loop-index.into.items (sym w.is_good.ensures ∙ w.if-is_good.false)
          ∙ c.loop-index.invariant
      | in_default w ↦ absurd (none_at o c.loop-index.index (sym w.in_default.ensures) (omega (arith, c.loop-index-test.true, c.triplet_count-index-end.ensures)))
    ]

pub returns-clause-items : goal.returns-clause-items
returns-clause-items c =
    let past = end_at (block_at c.args.arena.now c.args.slot) c.loop-index.index (omega (arith, c.loop-index-test.false, c.triplet_count-index-end.ensures)) in
    sym (ap (λ l. c.loop-index.into.items ++ storages_at (λ _ m. is_good m.tag) l) past ∙ append-nil c.loop-index.into.items) ∙ c.loop-index.invariant
