use Rattle.std.proofs.Common.{refl, subst, sym, ap, ◌∙◌, arith}
use Rattle.std.specs.Prelude.{ℕ, length}
use Rattle.bm_base.specs.declared.replica.Marks.{Marks}
use Rattle.std.proofs.lemmas.Bool.{true≢false}
use Rattle.bm_arena.specs.Contents.{Contents, block_at, known_of, KeepsAllBut}
use Rattle.bm_arena.specs.HeldMaps.{replicas_at}
use Rattle.bm_levels.specs.Changes.{changed}
use Rattle.bm_levels.proofs.Slots.{none_at}
use Rattle.bm_levels.proofs.AllMarks.{keeps_itself, keeps_then, changed_step, unchanged_step, change_end, change_count, count_at}
use Rattle.bm_levels.proofs.mark_changes.change_marks.Goals as goal
use Rattle.bm_levels.proofs.mark_changes.change_marks.Goals.{in-Some+then-not-is_same, in-Some+else-not-is_same, in_default}

pub loop-index-init : goal.loop-index-init
loop-index-init c = record { replicas = refl; known = refl; rest = keeps_itself c.args.slot c.args.arena.now; same = λ _. refl }

pub loop-index-preserved : goal.loop-index-preserved
loop-index-preserved c =
    let f = λ (s : ℕ) (m : Marks). changed c.args.change m in
    let slot = c.args.slot in
    let i = c.loop-index.index in
    let h = c.loop-index.invariant in
    elim c.match-triplet_at.branch [
      | in-Some+then-not-is_same w ↦
          let g = w.set_marks_near.ensures in
          let K : Contents → Type 0 = λ a. KeepsAllBut slot c.loop-index.arena a in
          record {
            replicas = ap (λ (a : Contents). replicas_at a slot) w.arena-is
                ∙ changed_step f c.args.arena.now c.loop-index.arena w.set_marks_near.new.self slot i _ _ w.apply-after.result c.show_invariant.ensures w.apply-after.ensures h.replicas (sym w.in-Some.ensures) g.after;
            known = ap (λ (a : Contents). known_of (block_at a slot)) w.arena-is ∙ g.known ∙ h.known;
            rest = keeps_then slot c.args.arena.now c.loop-index.arena c.match-triplet_at.arena h.rest (subst K (sym w.arena-is) g.rest);
            same = λ none. absurd (true≢false (sym w.is_changed-is ∙ none));
          }
      | in-Some+else-not-is_same w ↦
          let K : Contents → Type 0 = λ a. KeepsAllBut slot c.loop-index.arena a in
          record {
            replicas = ap (λ (a : Contents). replicas_at a slot) w.arena-is
                ∙ unchanged_step f c.args.arena.now c.loop-index.arena slot i _ _ w.apply-after.result w.apply-after.ensures (w.is_same.ensures.same w.if-not-is_same.false) h.replicas (sym w.in-Some.ensures);
            known = ap (λ (a : Contents). known_of (block_at a slot)) w.arena-is ∙ h.known;
            rest = keeps_then slot c.args.arena.now c.loop-index.arena c.match-triplet_at.arena h.rest (subst K (sym w.arena-is) (keeps_itself slot c.loop-index.arena));
            same = λ none. w.arena-is ∙ h.same (sym w.is_changed-is ∙ none);
          }
      | in_default w ↦
          let few = ap length h.replicas ∙ change_count f i (replicas_at c.args.arena.now slot) in
          let now = count_at c.loop-index.arena slot in
          let then = count_at c.args.arena.now slot in
          absurd (none_at (block_at c.loop-index.arena slot) i (sym w.in_default.ensures) (omega (arith, c.loop-index-test.true, c.triplet_count-index-end.ensures, few, now, then)))
    ]

pub returns-clause-replicas : goal.returns-clause-replicas
returns-clause-replicas c =
    let then = count_at c.args.arena.now c.args.slot in
    c.loop-index.invariant.replicas
    ∙ change_end (λ (s : ℕ) (m : Marks). changed c.args.change m) c.loop-index.index (replicas_at c.args.arena.now c.args.slot) (omega (arith, c.loop-index-test.false, c.triplet_count-index-end.ensures, then))
