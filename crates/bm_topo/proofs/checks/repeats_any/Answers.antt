use Rattle.std.proofs.Common.{subst}
use Rattle.std.specs.List.Sorted.{IsPermutation}
use Rattle.std.proofs.lemmas.List.Sorted.{IsNonDecreasingBy-from_sort}
use Rattle.bm_topo.proofs.Repeats.{twice_in_part, twice_behind}
use Rattle.bm_topo.proofs.checks.repeats_any.Goals as goal

pub has_equal_neighbours-requires : goal.has_equal_neighbours-requires
has_equal_neighbours-requires c = IsNonDecreasingBy-from_sort (λ x. x) c.sort_unstable.new.self c.sort_unstable.ensures.sorted

pub shares_any-requires : goal.shares_any-requires
shares_any-requires c = IsNonDecreasingBy-from_sort (λ x. x) c.sort_unstable.new.self c.sort_unstable.ensures.sorted

pub returns-then-has_equal_neighbours : goal.returns-then-has_equal_neighbours
returns-then-has_equal_neighbours c =
    let sorted = c.sort_unstable.new.self in
    let moved : IsPermutation c.args.part.now sorted = subst (λ xs. IsPermutation xs sorted) c.copy_from_slice.ensures.after c.sort_unstable.ensures.permutation in
    twice_in_part c.args.part.now sorted c.args.others.now c.has_equal_neighbours.result moved c.has_equal_neighbours.ensures c.if-has_equal_neighbours.true

pub returns-else-has_equal_neighbours : goal.returns-else-has_equal_neighbours
returns-else-has_equal_neighbours c =
    let sorted = c.sort_unstable.new.self in
    let moved : IsPermutation c.args.part.now sorted = subst (λ xs. IsPermutation xs sorted) c.copy_from_slice.ensures.after c.sort_unstable.ensures.permutation in
    twice_behind c.args.part.now sorted c.args.others.now c.has_equal_neighbours.result c.shares_any.result moved c.has_equal_neighbours.ensures c.if-has_equal_neighbours.false c.shares_any.ensures
