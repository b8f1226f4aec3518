use Rattle.std.proofs.Common.{subst}
use Rattle.std.specs.Prelude.{if◌then◌else◌}
use Rattle.bm_base.specs.Machine.Events.{drain, undrain, begin_drain}
use Rattle.bm_arena.specs.Contents.{IsLawful}
use Rattle.bm_levels.specs.SlotHoldings.{holdings_with}
use Rattle.bm_shard.proofs.ChangedBlocks.{changed_seen}
use Rattle.bm_shard.proofs.Transfers.{turned, nothing_came}
use Rattle.bm_levels.specs.UnusedEntries.{HasNoUnused}
use Rattle.bm_shard.proofs.UnusedEntries.{none_kept, none_outside, same_unused}
use Rattle.bm_shard.proofs.shard.Shard.set_draining.Goals as goal

pub returns-clause-changed : goal.returns-clause-changed
returns-clause-changed c =
    let C = c.args.topology.now.cluster in
    let old = c.self.inside in
    let n = c.args.node in
    let d = c.args.drains in
    let new = c.set_draining.new.self in
    let Q = c.drop_drained_transfers.new.pending.map in
    changed_seen C (if d then drain C n else undrain C n) old.blocks new old.pending.map Q
    (subst (λ a. IsLawful a) c.arena.ensures c.show_invariant-2.ensures) c.show_invariant.ensures (subst (λ a. IsLawful a) c.arena-2.ensures c.show_invariant-3.ensures)
    c.set_draining.ensures.levels old.part old.round old.pend _ _ (λ H. if d then begin_drain C H n else H) _ c.args.self.now c.self.view_is
    (turned C old.blocks.arena new.arena old.pending.map Q n d c.set_draining.ensures.arena c.drop_drained_transfers.ensures)
    (nothing_came C (holdings_with old.blocks.arena old.pending.map) n d)

none : (c : goal.After-drop_drained_transfers) → HasNoUnused c.set_draining.new.self.arena
none c = none_kept c.self.inside.blocks c.self.inside.pending.map c.self.inside.part c.self.inside.round c.self.inside.pend _ _ c.set_draining.new.self c.args.self.now c.self.view_is c.requires.none (same_unused c.self.inside.blocks.arena c.set_draining.new.self.arena c.set_draining.ensures.arena)

pub invariant_of-self : goal.invariant_of-self
invariant_of-self c = record { index = c.self.invariant.index; ready = tt; unused = λ b h. absurd (none c b h) }

pub returns-clause-unused : goal.returns-clause-unused
returns-clause-unused c = none_outside c.set_draining.new.self c.drop_drained_transfers.new.pending.map c.self.inside.part c.self.inside.round c.self.inside.pend _ _ (none c)
