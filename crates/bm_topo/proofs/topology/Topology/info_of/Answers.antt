use Rattle.std.proofs.Common.{◌≡◌, Some, length, slice_get, refl, ap, sym, ◌∙◌}
use Rattle.std.proofs.lemmas.Bool.{ltb-true}
use Rattle.std.proofs.lemmas.Option.{slice_get_read}
use Rattle.bm_base.specs.Maps.Map.{get, entries}
use Rattle.bm_topo.proofs.IndexedEntries.{get_at}
use Rattle.bm_topo.proofs.topology.Topology.info_of.Goals as goal

pub returns-then-found-number : goal.returns-then-found-number
returns-then-found-number c =
    let m = c.self.inside.storages.map in
    let place = c.of_storage.result in
    let found = c.in-Some.field-0.now in
    let es = c.entries-entries.result.now in
    let within = ltb-true place (length es) (sym c.in-Some.ensures.lookup.0) in
    let at : slice_get (entries m) place ≡ Some found = ap (λ xs. slice_get xs place) (sym c.entries-entries.ensures) ∙ slice_get_read es (length es) place found refl within c.in-Some.ensures.lookup.1 in
    let key : found.0 ≡ c.args.storage = c.if-found-number.true ∙ c.from-number.ensures ∙ c.storage.view_is in
    let same = ap (λ v. v.cluster.storages) c.self.view_is in
    sym (get_at m place found at) ∙ ap (get m) key ∙ ap (λ n. get n c.args.storage) same
