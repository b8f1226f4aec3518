use Rattle.std.proofs.Common.{◌+◌, ◌++◌, drop, ap, sym, ◌∙◌, arith}
use Rattle.std.proofs.lemmas.List.{append-nil}
use Rattle.bm_arena.specs.Contents.{block_at}
use Rattle.bm_arena.specs.HeldMaps.{replicas_at}
use Rattle.bm_levels.proofs.Slots.{next_at, none_at, end_at}
use Rattle.bm_queries.specs.ListedElements.{wants}
use Rattle.bm_queries.proofs.GatheredReplicas.{those, put_in, left_out, all_at}
use Rattle.bm_queries.proofs.replicas.push_replicas.Goals as goal
use Rattle.bm_queries.proofs.replicas.push_replicas.Goals.{in-Some+then-wants+in_ok-push, in-Some+else-wants, in_default}

pub loop-index-preserved : goal.loop-index-preserved
loop-index-preserved c =
    let o = block_at c.args.arena.now c.args.slot in
    let p = wants c.args.wanted in
    let id = c.id_of-block.result in
    let rs = drop c.loop-index.index (replicas_at c.args.arena.now c.args.slot) in
    let rest = drop (c.loop-index.index + 1) (replicas_at c.args.arena.now c.args.slot) in
    elim c.match-triplet_at.branch [
      | in-Some+then-wants+in_ok-push w ↦
          let here = next_at o c.loop-index.index _ (sym w.in-Some.ensures) in
          ap (λ v. v.items ++ those p id rest) w.into-is
          ∙ ap (λ xs. xs ++ those p id rest) w.in_ok-push.ensures.items
          ∙ put_in p id c.loop-index.into.items rs rest _ here (sym w.wants.ensures ∙ w.if-wants.true)
          ∙ c.loop-index.invariant
      | in-Some+else-wants w ↦
          let here = next_at o c.loop-index.index _ (sym w.in-Some.ensures) in
          ap (λ v. v.items ++ those p id rest) w.into-is
          ∙ left_out p id c.loop-index.into.items rs rest _ here (sym w.wants.ensures ∙ w.if-wants.false)
          ∙ c.loop-index.invariant
      | in_default w ↦ absurd (none_at o c.loop-index.index (sym w.in_default.ensures) (omega (arith, c.loop-index-test.true, c.triplet_count-index-end.ensures)))
    ]

pub returns-clause-items : goal.returns-clause-items
returns-clause-items c =
    let o = block_at c.args.arena.now c.args.slot in
    let p = wants c.args.wanted in
    let id = c.id_of-block.result in
    let past = end_at o c.loop-index.index (omega (arith, c.loop-index-test.false, c.triplet_count-index-end.ensures)) in
    sym (ap (λ l. c.loop-index.into.items ++ those p id l) past ∙ append-nil c.loop-index.into.items)
    ∙ c.loop-index.invariant
    ∙ ap (λ l. c.args.into.now.items ++ l) (all_at p o id c.requires c.id_of-block.ensures)
