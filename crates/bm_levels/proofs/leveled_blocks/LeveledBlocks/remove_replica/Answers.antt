use Rattle.std.proofs.Common.{◌≡◌, ◌∙◌, Some, None, sym, ap, not}
use Rattle.std.specs.Prelude.{is_some, nat_eq}
use Rattle.std.specs.Map.{lookup}
use Rattle.bm_base.specs.Words.{get, replica_at}
use Rattle.bm_arena.specs.Contents.{slot_of}
use Rattle.bm_arena.specs.HeldMaps.{replicas_of, blocks_of, info_at}
use Rattle.bm_base.proofs.Options.{not_there}
use Rattle.bm_report.proofs.Maps.{get-here}
use Rattle.bm_levels.proofs.RevisedHoldings.{remove_absent, replica_absent, known_at, entry_left}
use Rattle.bm_levels.proofs.UnusedEntries.{unused_changed}
use Rattle.bm_levels.proofs.leveled_blocks.LeveledBlocks.remove_replica.Goals as goal

pub returns-in_default-clause-replicas : goal.returns-in_default-clause-replicas
returns-in_default-clause-replicas c =
    let a = c.args.self.now.arena in
    remove_absent (replicas_of a) (replica_at c.args.id c.args.storage) (replica_absent a c.args.id c.args.storage (sym c.in_default.ensures))

pub returns-in_default-clause-removed : goal.returns-in_default-clause-removed
returns-in_default-clause-removed c = sym (ap is_some (replica_absent c.args.self.now.arena c.args.id c.args.storage (sym c.in_default.ensures)))

-- the replica does not exist
gone : (c : goal.Then-is_none) → get (replicas_of c.args.self.now.arena) (replica_at c.args.id c.args.storage) ≡ None
gone c =
    get-here c.args.self.now.arena c.args.id c.in-Some.slot c.args.storage (sym c.in-Some.ensures)
    ∙ sym c.marks_of.ensures ∙ not_there c.marks_of.result (c.is_none.ensures ∙ ap not c.if-is_none.true)

pub returns-then-is_none-clause-replicas : goal.returns-then-is_none-clause-replicas
returns-then-is_none-clause-replicas c = remove_absent (replicas_of c.args.self.now.arena) (replica_at c.args.id c.args.storage) (gone c)

pub returns-then-is_none-clause-removed : goal.returns-then-is_none-clause-removed
returns-then-is_none-clause-removed c = sym (ap is_some (gone c))

pub returns-clause-removed : goal.returns-clause-removed
returns-clause-removed c =
    let held = get-here c.args.self.now.arena c.args.id c.in-Some.slot c.args.storage (sym c.in-Some.ensures) in
    sym (ap is_some (held ∙ sym c.marks_of.ensures) ∙ c.is_none.ensures ∙ ap not c.if-is_none.false)

pub returns-clause-entry : goal.returns-clause-entry
returns-clause-entry c =
    λ was absent.
    let id = c.args.id in
    let slot = c.in-Some.slot in
    let a = c.args.self.now.arena in
    let b = c.remove.new.self.arena in
    let still : slot_of b id ≡ Some slot = ap (λ l. lookup (nat_eq id) l) c.remove.ensures.rest.ids ∙ sym c.in-Some.ensures in
    let unknown : info_at b slot ≡ None = sym (known_at b id slot still) ∙ ap (λ m. get m id) c.remove.ensures.blocks ∙ not_there (get (blocks_of a) id) absent in
    entry_left b c.drop_if_unused.new.self.arena id slot still c.drop_if_unused.ensures.replicas (λ none. c.drop_if_unused.ensures.gone id still none unknown)

pub returns-clause-unused : goal.returns-clause-unused
returns-clause-unused c =
    let d = c.drop_if_unused.ensures in
    unused_changed c.args.self.now.arena c.remove.new.self.arena c.drop_if_unused.new.self.arena c.in-Some.slot c.remove.ensures.rest.ids c.remove.ensures.rest.blocks d.blocks d.replicas d.numbers d.gone
