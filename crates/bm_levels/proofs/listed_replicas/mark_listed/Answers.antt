use Rattle.std.proofs.Common.{refl, subst, sym, ap, ◌∙◌, arith}
use Rattle.std.specs.Prelude.{length}
use Rattle.bm_arena.specs.Contents.{Contents, block_at, known_of, KeepsAllBut}
use Rattle.bm_arena.specs.HeldMaps.{replicas_at}
use Rattle.bm_levels.specs.Changes.{excess_on}
use Rattle.bm_levels.proofs.GroupedReplicas.{listed_marks, other_marks}
use Rattle.bm_levels.proofs.Slots.{none_at}
use Rattle.bm_levels.proofs.AllMarks.{keeps_itself, keeps_then, changed_step, unchanged_step, change_end, change_count, count_at}
use Rattle.bm_levels.proofs.listed_replicas.mark_listed.Goals as goal
use Rattle.bm_levels.proofs.listed_replicas.mark_listed.Goals.{in-Some+then-is_listed, in-Some+else-is_listed, in_default}

pub loop-index-preserved : goal.loop-index-preserved
loop-index-preserved c =
    let ps = c.args.listed.now in
    let f = excess_on ps in
    let slot = c.args.slot in
    let i = c.loop-index.index in
    let h = c.loop-index.invariant in
    elim c.match-triplet_at.branch [
      | in-Some+then-is_listed w ↦
          let g = w.set_marks_near.ensures in
          let K : Contents → Type 0 = λ a. KeepsAllBut slot c.loop-index.arena a in
          record {
            replicas = ap (λ (a : Contents). replicas_at a slot) w.arena-is
                ∙ changed_step f c.args.arena.now c.loop-index.arena w.set_marks_near.new.self slot i _ _ w.with_excess.result c.show_invariant.ensures
                (listed_marks ps _ _ w.is_listed.result w.is_listed.ensures w.with_excess.result w.with_excess.ensures w.if-is_listed.true) h.replicas (sym w.in-Some.ensures) g.after;
            known = ap (λ (a : Contents). known_of (block_at a slot)) w.arena-is ∙ g.known ∙ h.known;
            rest = keeps_then slot c.args.arena.now c.loop-index.arena c.match-triplet_at.arena h.rest (subst K (sym w.arena-is) g.rest);
          }
      | in-Some+else-is_listed w ↦
          let K : Contents → Type 0 = λ a. KeepsAllBut slot c.loop-index.arena a in
          record {
            replicas = ap (λ (a : Contents). replicas_at a slot) w.arena-is
                ∙ unchanged_step f c.args.arena.now c.loop-index.arena slot i _ _ _
                (other_marks ps _ _ w.is_listed.result w.is_listed.ensures w.if-is_listed.false) refl h.replicas (sym w.in-Some.ensures);
            known = ap (λ (a : Contents). known_of (block_at a slot)) w.arena-is ∙ h.known;
            rest = keeps_then slot c.args.arena.now c.loop-index.arena c.match-triplet_at.arena h.rest (subst K (sym w.arena-is) (keeps_itself slot c.loop-index.arena));
          }
      | in_default w ↦
          let few = ap length h.replicas ∙ change_count f i (replicas_at c.args.arena.now slot) in
          let now = count_at c.loop-index.arena slot in
          let then = count_at c.args.arena.now slot in
          absurd (none_at (block_at c.loop-index.arena slot) i (sym w.in_default.ensures) (omega (arith, c.loop-index-test.true, c.triplet_count-index-end.ensures, few, now, then)))
    ]

pub returns-clause-replicas : goal.returns-clause-replicas
returns-clause-replicas c =
    let then = count_at c.args.arena.now c.args.slot in
    c.loop-index.invariant.replicas
    ∙ change_end (excess_on c.args.listed.now) c.loop-index.index (replicas_at c.args.arena.now c.args.slot) (omega (arith, c.loop-index-test.false, c.triplet_count-index-end.ensures, then))
