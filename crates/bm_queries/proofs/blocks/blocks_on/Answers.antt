use Rattle.std.proofs.Common.{◌≡◌, ◌++◌, ◌∷◌, [], ℕ, List, map, is_some, ap, sym, ◌∙◌, subst}
use Rattle.std.specs.List.Sorted.{IsPermutation}
use Rattle.std.proofs.lemmas.Iterator.Consumers.{YieldsList-from_first, YieldsList-turn, YieldsList-end}
use Rattle.std.proofs.lemmas.List.{map-append}
use Rattle.bm_arena.specs.Contents.{Contents, list_of, IsLawful}
use Rattle.bm_arena.specs.HeldMaps.{id_at}
use Rattle.bm_queries.proofs.IndexedSlots.{IsOwn}
use Rattle.bm_queries.proofs.OwnBlocks.{among_turn, own_listed, answered_id}
use Rattle.bm_queries.proofs.OnStorage.{on_storage}
use Rattle.bm_parts.proofs.JoinedBlocks.{map_same}
use Rattle.bm_queries.proofs.blocks.blocks_on.Goals as goal

own_turn : (c : goal.After-ids-1) → IsOwn c.args.blocks.now.arena c.in-Some.slot
own_turn c =
    let v = c.args.blocks.now in
    let lawful : IsLawful v.arena = subst IsLawful c.arena-arena.ensures c.show_invariant-2.ensures in
    let all = list_of v.arena c.args.storage in
    let road = YieldsList-from_first (λ (x : ℕ). x) (λ (rest : List ℕ). rest) all (c.into_iter-slot-iterator.ensures.into_iter_gives ∙ c.walk-slot-items.ensures ∙ ap (λ (a : Contents). list_of a c.args.storage) c.arena-arena.ensures) in
    own_listed v lawful c.show_invariant.ensures c.args.storage c.in-Some.slot (among_turn all c.loop-slot.yielded c.in-Some.slot (YieldsList-turn road c.loop-slot.yielded _ c.loop-slot.yielded_by _ _ c.in-Some.slot c.in-Some.is c.next.ensures.steps))

pub id_of-requires : goal.id_of-requires
id_of-requires c =
    let P : Contents → Type 0 = λ a. IsOwn a c.in-Some.slot in
    ap is_some (subst P (sym c.arena-arena.ensures) (own_turn c)).here

pub loop-slot-preserved : goal.loop-slot-preserved
loop-slot-preserved c =
    let v = c.args.blocks.now in
    let a = c.arena-arena.result.now in
    let lawful : IsLawful v.arena = subst IsLawful c.arena-arena.ensures c.show_invariant-2.ensures in
    let all = list_of v.arena c.args.storage in
    let road = YieldsList-from_first (λ (x : ℕ). x) (λ (rest : List ℕ). rest) all (c.into_iter-slot-iterator.ensures.into_iter_gives ∙ c.walk-slot-items.ensures ∙ ap (λ (a : Contents). list_of a c.args.storage) c.arena-arena.ensures) in
    let there = among_turn all c.loop-slot.yielded c.in-Some.slot (YieldsList-turn road c.loop-slot.yielded _ c.loop-slot.yielded_by _ _ c.in-Some.slot c.in-Some.is c.next.ensures.steps) in
    let P : Contents → Type 0 = λ a. IsOwn a c.in-Some.slot in
    let own = subst P (sym c.arena-arena.ensures) (own_listed v lawful c.show_invariant.ensures c.args.storage c.in-Some.slot there) in
    let id = answered_id a c.in-Some.slot c.id_of.result own c.id_of.ensures in
    c.in_ok-push.ensures.items ∙ (λ i. c.loop-slot.invariant i ++ id i ∷ []) ∙ sym (map-append (id_at a) c.loop-slot.yielded (c.in-Some.slot ∷ []))

pub returns-clause-blocks : goal.returns-clause-blocks
returns-clause-blocks c pending =
    let v = c.args.blocks.now in
    let lawful : IsLawful v.arena = subst IsLawful c.arena-arena.ensures c.show_invariant-2.ensures in
    let all = list_of v.arena c.args.storage in
    let road = YieldsList-from_first (λ (x : ℕ). x) (λ (rest : List ℕ). rest) all (c.into_iter-slot-iterator.ensures.into_iter_gives ∙ c.walk-slot-items.ensures ∙ ap (λ (a : Contents). list_of a c.args.storage) c.arena-arena.ensures) in
    let end = YieldsList-end road c.loop-slot.yielded _ c.loop-slot.yielded_by _ _ c.in-None.is c.next.ensures.steps in
    let ids : c.loop-slot.ids.items ≡ map (id_at v.arena) all = c.loop-slot.invariant ∙ (λ i. map (id_at (c.arena-arena.ensures i)) (sym (map_same c.loop-slot.yielded) i)) ∙ ap (map (id_at v.arena)) end.0 in
    let P : List ℕ → Type 0 = λ xs. IsPermutation xs c.sort.new.self.items in
    c.from_vec.ensures ∙ on_storage v lawful c.show_invariant.ensures pending c.args.storage c.sort.new.self.items (subst P ids c.sort.ensures.permutation) c.in_ok-sort.ensures.sorted
