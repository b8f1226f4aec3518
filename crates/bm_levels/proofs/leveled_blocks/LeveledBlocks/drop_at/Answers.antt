use Rattle.std.proofs.Common.{◌≡◌, ℕ, Some, true≢false, subst, sym, ◌∙◌}
use Rattle.std.proofs.lemmas.Bool.{false≢true}
use Rattle.bm_arena.specs.Contents.{slot_of}
use Rattle.bm_report.proofs.Aborts.{held_in}
use Rattle.bm_levels.specs.UnusedEntries.{IsUnused}
use Rattle.bm_levels.specs.LeveledBlocks.{Leveled}
use Rattle.bm_levels.proofs.UnusedEntries.{unused_gone}
use Rattle.bm_levels.proofs.ReadyReports.{unused_there}
use Rattle.bm_levels.proofs.leveled_blocks.LeveledBlocks.drop_at.Goals as goal
use Rattle.bm_levels.proofs.leveled_blocks.LeveledBlocks.drop_at.Goals.{else-has_no_replicas-via-then-has_no_replicas+else-not-is_delimiter, else-has_no_replicas-via-else-has_no_replicas}

pub drop_if_unused-requires : goal.drop_if_unused-requires
drop_if_unused-requires c =
    let held = held_in (λ k. k.replicas ≡ _) _ (c.has_no_replicas.ensures.0 c.if-has_no_replicas.true) in
    let entry = c.show_invariant.ensures.known c.args.slot held.0 held.1 (λ is. true≢false (sym (c.is_delimiter.ensures.1 is) ∙ c.if-not-is_delimiter.true)) in
    let P : Leveled → Type 0 = λ v. (x : ℕ) × (slot_of v.arena x ≡ Some c.args.slot) in
    subst P c.self.view_is (held.0.id, entry)

pub returns-then-not-is_delimiter-clause-left : goal.returns-then-not-is_delimiter-clause-left
returns-then-not-is_delimiter-clause-left c =
    let d = c.drop_if_unused.ensures in
    unused_gone c.args.self.now.arena c.drop_if_unused.new.self.arena c.args.slot d.blocks d.replicas d.numbers d.gone

pub returns-else-has_no_replicas-clause-left : goal.returns-else-has_no_replicas-clause-left
returns-else-has_no_replicas-clause-left c b at unused =
    let P : Leveled → Type 0 = λ v. slot_of v.arena b ≡ Some c.args.slot in
    let Q : Leveled → Type 0 = λ v. IsUnused v.arena b in
    let some = unused_there c.self.inside.arena b c.args.slot c.show_invariant.ensures (subst P (sym c.self.view_is) at) (subst Q (sym c.self.view_is) unused) in
    elim c.else-has_no_replicas.branch [
      | else-has_no_replicas-via-then-has_no_replicas+else-not-is_delimiter w ↦ absurd ((c.show_invariant.ensures.found b c.args.slot (subst P (sym c.self.view_is) at)).0 (w.is_delimiter.ensures.0 w.if-not-is_delimiter.false))
      | else-has_no_replicas-via-else-has_no_replicas w ↦ false≢true (sym w.if-has_no_replicas.false ∙ c.has_no_replicas.ensures.1 some)
    ]
