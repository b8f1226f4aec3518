use Rattle.std.proofs.Common.{◌≡◌, ◌++◌, ◌∷◌, [], ℕ, Some, List, get_or, map, is_some, ap, sym, ◌∙◌, subst}
use Rattle.std.specs.Prelude.{◌↔◌}
use Rattle.std.specs.List.Sorted.{IsPermutation}
use Rattle.std.proofs.lemmas.List.{map_more, take_all}
use Rattle.bm_base.specs.declared.replica.Level.TheVariants.{NoUsableReplica}
use Rattle.bm_maps.specs.SlotLists.{IsMember}
use Rattle.bm_arena.specs.Contents.{Contents, IsLawful}
use Rattle.bm_arena.specs.HeldMaps.{id_at}
use Rattle.bm_levels.specs.IndexedLevels.{IndexedLevels, level_of_slot}
use Rattle.bm_queries.proofs.IndexedSlots.{IsOwn}
use Rattle.bm_queries.proofs.OwnBlocks.{among_at, own_leveled, answered_id}
use Rattle.bm_queries.proofs.OnStorage.{at_level}
use Rattle.bm_queries.proofs.blocks.missing_blocks.Goals as goal

pub id_of-requires : goal.id_of-requires
id_of-requires c =
    let v = c.args.blocks.now in
    let lawful : IsLawful v.arena = subst IsLawful c.arena-arena.ensures c.show_invariant-2.ensures in
    let all = c.at_level-slots.result.now in
    let slot = get_or all c.loop-slot.slot-index 0 in
    let there = among_at all c.loop-slot.slot-index 0 c.loop-slot-test.true in
    let own =
    own_leveled v lawful c.show_invariant.ensures NoUsableReplica slot (ap (λ (k : IndexedLevels). level_of_slot k slot) (sym c.level_index.ensures) ∙ (c.at_level-slots.ensures.exact slot).0 there) in
    let P : Contents → Type 0 = λ a. IsOwn a slot in
    ap is_some (subst P (sym c.arena-arena.ensures) own).here

pub loop-slot-preserved : goal.loop-slot-preserved
loop-slot-preserved c =
    let v = c.args.blocks.now in
    let a = c.arena-arena.result.now in
    let lawful : IsLawful v.arena = subst IsLawful c.arena-arena.ensures c.show_invariant-2.ensures in
    let all = c.at_level-slots.result.now in
    let slot = get_or all c.loop-slot.slot-index 0 in
    let there = among_at all c.loop-slot.slot-index 0 c.loop-slot-test.true in
    let P : Contents → Type 0 = λ a. IsOwn a slot in
    let own =
    subst P (sym c.arena-arena.ensures)
    (own_leveled v lawful c.show_invariant.ensures NoUsableReplica slot (ap (λ (k : IndexedLevels). level_of_slot k slot) (sym c.level_index.ensures) ∙ (c.at_level-slots.ensures.exact slot).0 there)) in
    let id = answered_id a slot c.id_of.result own c.id_of.ensures in
    c.in_ok-push.ensures.items ∙ (λ i. c.loop-slot.invariant i ++ id i ∷ []) ∙ sym (map_more (id_at a) all c.loop-slot.slot-index 0 c.loop-slot-test.true)

pub returns-clause-missing : goal.returns-clause-missing
returns-clause-missing c C levels pending =
    let v = c.args.blocks.now in
    let lawful : IsLawful v.arena = subst IsLawful c.arena-arena.ensures c.show_invariant-2.ensures in
    let all = c.at_level-slots.result.now in
    let ids : c.loop-slot.ids.items ≡ map (id_at v.arena) all =
    c.loop-slot.invariant ∙ (λ i. map (id_at (c.arena-arena.ensures i)) (take_all c.loop-slot.slot-index all c.loop-slot-test.false i)) in
    let P : List ℕ → Type 0 = λ xs. IsPermutation xs c.sort.new.self.items in
    let Q : IndexedLevels → Type 0 = λ k. (slot : ℕ) → IsMember slot all ↔ (level_of_slot k slot ≡ Some NoUsableReplica) in
    c.from_vec.ensures
    ∙ at_level C v lawful c.show_invariant.ensures levels pending all c.sort.new.self.items (subst Q c.level_index.ensures c.at_level-slots.ensures.exact) c.at_level-slots.ensures.once (subst P ids c.sort.ensures.permutation) c.in_ok-sort.ensures.sorted
