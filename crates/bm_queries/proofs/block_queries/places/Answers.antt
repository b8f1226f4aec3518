use Rattle.std.proofs.Common.{◌≡◌, ◌++◌, ℕ, [], Option, ap, ◌∙◌, subst}
use Rattle.std.specs.Option.{option_map_or}
use Rattle.bm_base.specs.Words.{places, is_good}
use Rattle.bm_arena.specs.Contents.{Contents}
use Rattle.bm_arena.specs.HeldMaps.{replicas_at}
use Rattle.bm_levels.specs.SlotHoldings.{holdings_with}
use Rattle.bm_levels.specs.Status.{storages_at}
use Rattle.bm_queries.proofs.AtSlot.{sorted_places, good_storages}
use Rattle.bm_queries.proofs.block_queries.places.Goals as goal
use Rattle.bm_queries.proofs.block_queries.places.Goals.{in-Some+in_ok-push_places, in_default}

pub returns-clause-places : goal.returns-clause-places
returns-clause-places c pending =
    let a = c.arena-arena.result.now in
    let at = λ (o : Option ℕ). option_map_or (λ slot. storages_at (λ _ m. is_good m.tag) (replicas_at a slot)) o [] in
    let P : Contents → Type 0 = λ x. c.from_vec.result ≡ places (holdings_with x pending) c.args.id in
    let gathered : c.match-find.storages.items ≡ good_storages a c.args.id =
    elim c.match-find.branch [
      | in-Some+in_ok-push_places w ↦ ap (λ v. v.items) w.storages-is ∙ w.in_ok-push_places.ensures.items ∙ ap (λ xs. xs ++ storages_at (λ _ m. is_good m.tag) (replicas_at a w.in-Some.slot)) c.new-storages.ensures.items ∙ ap at w.in-Some.ensures
      | in_default w ↦ ap (λ v. v.items) w.storages-is ∙ c.new-storages.ensures.items ∙ ap at w.in_default.ensures
    ] in
    subst P c.arena-arena.ensures
    (c.from_vec.ensures ∙ sorted_places a c.show_invariant.ensures pending c.args.id c.match-find.storages.items c.sort.new.self.items gathered c.sort.ensures.permutation c.in_ok-sort.ensures.sorted)
