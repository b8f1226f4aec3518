use Rattle.std.proofs.Common.{◌≡◌, ◌++◌, ℕ, [], Option, ap, sym, ◌∙◌, take}
use Rattle.std.specs.Option.{option_map_or}
use Rattle.bm_base.specs.declared.limits.TheConstants.{MAX_PLACES}
use Rattle.bm_base.specs.Machine.Replicas.{is_good}
use Rattle.bm_arena.specs.HeldMaps.{replicas_at}
use Rattle.bm_levels.specs.Status.{storages_at}
use Rattle.bm_queries.proofs.AtSlot.{sorted_places, good_storages}
use Rattle.bm_queries.proofs.rows.first_places.Goals as goal

pub returns-clause-places : goal.returns-clause-places
returns-clause-places c pending =
    let a = c.args.arena.now in
    let at = λ (o : Option ℕ). option_map_or (λ slot. storages_at (λ _ m. is_good m.tag) (replicas_at a slot)) o [] in
    let gathered : c.push_places.new.into.items ≡ good_storages a c.args.id =
    c.in_ok-push_places.ensures.items ∙ ap (λ xs. xs ++ storages_at (λ _ m. is_good m.tag) (replicas_at a c.args.slot)) c.clear.ensures.items ∙ ap at (sym c.requires) in
    c.first_of.ensures
    ∙ ap (take MAX_PLACES) (c.as_slice.ensures.value ∙ sorted_places a c.show_invariant.ensures pending c.args.id c.push_places.new.into.items c.sort.new.self.items gathered c.sort.ensures.permutation c.in_ok-sort.ensures.sorted)
