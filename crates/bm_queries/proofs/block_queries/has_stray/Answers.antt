use Rattle.std.proofs.Common.{◌≡◌, ◌+◌, true, false, ◌||◌, drop, ap, sym, ◌∙◌, arith}
use Rattle.std.specs.List.{list_any}
use Rattle.bm_base.specs.Machine.Replicas.{is_stray}
use Rattle.bm_arena.specs.Contents.{block_at}
use Rattle.bm_arena.specs.HeldMaps.{replicas_at}
use Rattle.bm_levels.proofs.Slots.{next_at, none_at, end_at}
use Rattle.bm_queries.proofs.block_queries.has_stray.Goals as goal
use Rattle.bm_queries.proofs.block_queries.has_stray.Goals.{in-Some+else-is_stray, in_default}

pub returns-then-is_stray : goal.returns-then-is_stray
returns-then-is_stray c =
    let here = next_at (block_at c.args.arena.now c.args.slot) c.loop-index.index _ (sym c.in-Some.ensures) in
    let stray : is_stray c.in-Some.marks.tag ≡ true = sym c.is_stray.ensures ∙ c.if-is_stray.true in
    sym (sym c.loop-index.invariant ∙ ap (list_any (λ r. is_stray r.1.tag)) here ∙ ap (λ b. b || list_any (λ r. is_stray r.1.tag) (drop (c.loop-index.index + 1) (replicas_at c.args.arena.now c.args.slot))) stray)

pub loop-index-preserved : goal.loop-index-preserved
loop-index-preserved c =
    let o = block_at c.args.arena.now c.args.slot in
    elim c.match-triplet_at.branch [
      | in-Some+else-is_stray w ↦
          let here = next_at o c.loop-index.index _ (sym w.in-Some.ensures) in
          let other : is_stray w.in-Some.marks.tag ≡ false = sym w.is_stray.ensures ∙ w.if-is_stray.false in
          sym (ap (list_any (λ r. is_stray r.1.tag)) here ∙ ap (λ b. b || list_any (λ r. is_stray r.1.tag) (drop (c.loop-index.index + 1) (replicas_at c.args.arena.now c.args.slot))) other) ∙ c.loop-index.invariant
      | in_default w ↦ absurd (none_at o c.loop-index.index (sym w.in_default.ensures) (omega (arith, c.loop-index-test.true, c.triplet_count-index-end.ensures)))
    ]

pub returns : goal.returns
returns c =
    let past = end_at (block_at c.args.arena.now c.args.slot) c.loop-index.index (omega (arith, c.loop-index-test.false, c.triplet_count-index-end.ensures)) in
    sym (ap (list_any (λ r. is_stray r.1.tag)) past) ∙ c.loop-index.invariant
