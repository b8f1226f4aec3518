use Rattle.std.proofs.Common.{◌≡◌, ◌<◌, ◌≤◌, ℕ, length, get_or, sym, subst, ◌∙◌}
use Rattle.std.specs.Result.{MatchResult}
use Rattle.std.proofs.lemmas.List.Sorted.{searched}
use Rattle.bm_round.proofs.AddedCommands.{ids_ascend, place_of_node, place_of_none, place_unknown}
use Rattle.bm_round.proofs.groups.index_of.Goals as goal

pub returns-in-Ok : goal.returns-in-Ok
returns-in-Ok c =
    let C = c.args.topology.now.cluster in
    let ids = c.args.ids.now in
    let of = sym c.node_of.ensures ∙ c.in-Some.is in
    let found = subst (λ r. MatchResult r (λ i. (i < length ids) × (get_or ids i 0 ≡ c.in-Some.node)) (λ i. (i ≤ length ids) × ((k : ℕ) → k < i → get_or ids k 0 < c.in-Some.node) × ((k : ℕ) → i ≤ k → k < length ids → c.in-Some.node < get_or ids k 0)))
    c.in-Ok.is (searched ids c.in-Some.node c.binary_search.result c.binary_search.ensures.position (ids_ascend C c.args.storage c.in-Some.node ids c.requires of)) in
    place_of_node C c.args.storage c.in-Some.node ids c.requires of c.in-Ok.index found.0 found.1

pub returns-in-Err : goal.returns-in-Err
returns-in-Err c =
    let C = c.args.topology.now.cluster in
    let ids = c.args.ids.now in
    let of = sym c.node_of.ensures ∙ c.in-Some.is in
    let missed = subst (λ r. MatchResult r (λ i. (i < length ids) × (get_or ids i 0 ≡ c.in-Some.node)) (λ i. (i ≤ length ids) × ((k : ℕ) → k < i → get_or ids k 0 < c.in-Some.node) × ((k : ℕ) → i ≤ k → k < length ids → c.in-Some.node < get_or ids k 0)))
    c.in-Err.is (searched ids c.in-Some.node c.binary_search.result c.binary_search.ensures.position (ids_ascend C c.args.storage c.in-Some.node ids c.requires of)) in
    place_of_none C c.args.storage c.in-Some.node ids c.requires of c.in-Err.field-0 missed.1 missed.2

pub returns-in-None : goal.returns-in-None
returns-in-None c = place_unknown c.args.topology.now.cluster c.args.storage c.args.ids.now (sym c.node_of.ensures ∙ c.in-None.is)
