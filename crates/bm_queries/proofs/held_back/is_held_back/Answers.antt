use Rattle.std.proofs.Common.{ap, subst, ◌∙◌, filter, ℕ, List}
use Rattle.std.specs.List.{list_any}
use Rattle.bm_base.specs.Words.{keys, has_storage}
use Rattle.bm_arena.specs.Contents.{Contents, IsLawful}
use Rattle.bm_queries.specs.ListedElements.{holds_back_node}
use Rattle.bm_queries.proofs.WaitingBlocks.{held_back_is}
use Rattle.bm_queries.proofs.held_back.is_held_back.Goals as goal

pub returns : goal.returns
returns c pending =
    let C = c.args.topology.now.cluster in
    let n = c.args.node in
    let v = c.args.blocks.now in
    let own = filter (has_storage C n) (keys C.storages) in
    c.any_waits.ensures ∙ ap (λ (ss : List ℕ). list_any (holds_back_node C c.arena-arena.result.now) ss) c.storages_of.ensures.storages ∙ ap (λ (a : Contents). list_any (holds_back_node C a) own) c.arena-arena.ensures
    ∙ held_back_is C n v (subst IsLawful c.arena-arena.ensures c.show_invariant-2.ensures) c.show_invariant.ensures pending
