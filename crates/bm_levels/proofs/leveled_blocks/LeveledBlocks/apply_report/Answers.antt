use Rattle.std.proofs.Common.{◌≡◌, ℕ, List, ◌⊎◌, inl, inr, refl, subst}
use Rattle.std.specs.Prelude.{◌≢◌}
use Rattle.bm_maps.specs.SlotLists.{IsMember}
use Rattle.bm_maps.proofs.SlotLists.{dec_among}
use Rattle.bm_base.specs.Machine.Replicas.{rack_of, is_draining, is_multi_rack}
use Rattle.bm_arena.specs.Contents.{block_at}
use Rattle.bm_levels.specs.IndexedLevels.{IsClassified, IsSameAt}
use Rattle.bm_levels.specs.LeveledBlocks.{Leveled, AreLevels}
use Rattle.bm_report.specs.Ready.{IsReportedAt, reported_blocks as blocks_of_report}
use Rattle.bm_levels.proofs.OneSlot.{held_by}
use Rattle.bm_levels.proofs.ManySlots.{leveled_reported, levels_reported}
use Rattle.bm_levels.proofs.leveled_blocks.LeveledBlocks.apply_report.Goals as goal

pub update_all-requires : goal.update_all-requires
update_all-requires c = record {
  capacity = λ slot there.
      let P : List ℕ → Type 0 = λ l. IsMember slot l in
      elim (c.apply_full-applied.ensures.listed slot (subst P c.changed_slots.ensures there)) [
        | inl old ↦ absurd (subst P c.requires.fresh old)
        | inr e ↦ c.self.invariant.capacity slot (held_by c.self.inside.arena slot (c.show_invariant.ensures.found e.0 slot e.1))
      ];
}

abbrev before : goal.After-update_all → Leveled
before c = record { arena = c.self.inside.arena; level_index = c.self.inside.level_index }

each : (c : goal.After-update_all) → (slot : ℕ) → slot ≢ c.self.inside.arena.delimiter
    → (IsClassified (rack_of c.args.topology.now.cluster) (is_draining c.args.topology.now.cluster) (is_multi_rack c.args.topology.now.cluster) (block_at c.apply_full-applied.new.arena slot) c.update_all.new.self slot)
    ⊎ ((block_at c.apply_full-applied.new.arena slot ≡ block_at c.self.inside.arena slot) × IsSameAt c.self.inside.level_index c.update_all.new.self slot)
each c slot ne =
    elim (dec_among slot c.changed_slots.result.now) [
      | inl there ↦ inl (c.update_all.ensures.status slot there)
      | inr absent ↦
          let P : List ℕ → Type 0 = λ l. IsMember slot l → ⊥ in
          inr (c.apply_full-applied.ensures.changed slot ne (subst P c.changed_slots.ensures absent), c.update_all.ensures.others slot absent)
    ]

mark : (c : goal.After-update_all) → IsSameAt c.self.inside.level_index c.update_all.new.self c.self.inside.arena.delimiter
mark c =
    c.update_all.ensures.others c.self.inside.arena.delimiter
    (λ there.
    let P : List ℕ → Type 0 = λ l. IsMember c.self.inside.arena.delimiter l in
    elim (c.apply_full-applied.ensures.listed c.self.inside.arena.delimiter (subst P c.changed_slots.ensures there)) [
      | inl old ↦ subst P c.requires.fresh old
      | inr e ↦ (c.show_invariant.ensures.found e.0 c.self.inside.arena.delimiter e.1).0 refl
    ])

pub invariant_of-self : goal.invariant_of-self
invariant_of-self c =
    let r = c.apply_full-applied.ensures in
    leveled_reported c.args.topology.now.cluster (before c) c.apply_full-applied.new.arena c.update_all.new.self r.entries.delimiter r.free r.entries.known (each c) (mark c) c.self.invariant c.update_all.ensures.capacity

pub returns-clause-levels : goal.returns-clause-levels
returns-clause-levels c =
    let r = c.apply_full-applied.ensures in
    let P : Leveled → Type 0 = λ v. AreLevels c.args.topology.now.cluster v → AreLevels c.args.topology.now.cluster (record { arena = c.apply_full-applied.new.arena; level_index = c.update_all.new.self }) in
    subst P c.self.view_is
    (levels_reported c.args.topology.now.cluster (before c) c.apply_full-applied.new.arena c.update_all.new.self r.entries.delimiter r.free r.entries.known (each c) (mark c) c.self.invariant)

pub returns-clause-came : goal.returns-clause-came
returns-clause-came c slot m =
    elim (c.apply_full-applied.ensures.came slot m) [
      | inl old ↦ let P : List ℕ → Type 0 = λ l. IsMember slot l in absurd (subst P c.requires.fresh old)
      | inr reported_blocks ↦ let P : Leveled → Type 0 = λ v. IsReportedAt v.arena (blocks_of_report c.args.report.now) slot in subst P c.self.view_is reported_blocks
    ]
