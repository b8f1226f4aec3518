use Rattle.std.proofs.Common.{◌≡◌, ◌<◌, ◌+◌, ℕ, refl, List, ◌∷◌, Some, length, get_or, drop, drop-cons, add-one, arith, ap, subst, inl, inr, ◌∙◌}
use Rattle.bm_maps.specs.SlotLists.{IsMember}
use Rattle.bm_levels.specs.UnusedEntries.{IsUnused}
use Rattle.bm_levels.proofs.UnusedEntries.{unused_held, some_before}
use Rattle.bm_levels.proofs.leveled_blocks.LeveledBlocks.drop_each.Goals as goal

pub loop-slot-preserved : goal.loop-slot-preserved
loop-slot-preserved c =
    let now = c.loop-slot.self.arena in
    let new = c.drop_at.new.self.arena in
    let h = c.loop-slot.invariant in
    let d = c.drop_at.ensures in
    let xs = c.args.slots.now in
    let i = c.loop-slot.slot-index in
    let less : i < length xs = omega arith in
    let next : drop i xs ≡ get_or xs i 0 ∷ drop (i + 1) xs = rw (add-one, drop-cons xs i 0) refl in
    record {
      blocks = d.blocks ∙ h.blocks;
      replicas = d.replicas ∙ h.replicas;
      slots = λ b some. d.slots b some ∙ h.slots b (some_before (d.slots b some) some);
      left = λ b slot there at unused.
          let was : IsUnused now b = unused_held now new b (some_before (d.slots b unused.entry) unused.entry) d.blocks d.replicas unused in
          let P : List ℕ → Type 0 = λ l. IsMember slot l in
          elim (subst P next (h.left b slot there at was)) [
            | inl same ↦ absurd (d.left b (h.slots b was.entry ∙ at ∙ ap (λ x. Some x) same) unused)
            | inr later ↦ later
          ];
      lists = d.lists ∙ h.lists;
      levels_by = λ rack draining multi were. d.levels_by rack draining multi (h.levels_by rack draining multi were);
    }
