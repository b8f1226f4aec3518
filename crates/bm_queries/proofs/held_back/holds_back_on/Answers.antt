use Rattle.std.proofs.Common.{ℕ, List, sym, ◌∙◌}
use Rattle.std.proofs.lemmas.Iterator.Consumers.{YieldsList-from_first, YieldsList-turn}
use Rattle.bm_arena.specs.Contents.{list_of}
use Rattle.bm_queries.specs.ListedElements.{holds_back_at}
use Rattle.bm_queries.proofs.OwnBlocks.{among_turn}
use Rattle.bm_queries.proofs.WaitingBlocks.{any_among}
use Rattle.bm_queries.proofs.held_back.holds_back_on.Goals as goal

pub returns-then-holds_back_at : goal.returns-then-holds_back_at
returns-then-holds_back_at c =
    let all = list_of c.args.arena.now c.args.storage in
    let road = YieldsList-from_first (λ (x : ℕ). x) (λ (rest : List ℕ). rest) all (c.into_iter-slot-iterator.ensures.into_iter_gives ∙ c.walk-slot-items.ensures) in
    let there = among_turn all c.loop-slot.yielded c.in-Some.slot (YieldsList-turn road c.loop-slot.yielded _ c.loop-slot.yielded_by _ _ c.in-Some.slot c.in-Some.is c.next.ensures.steps) in
    sym (any_among (holds_back_at c.args.topology.now.cluster c.args.arena.now c.args.storage) all c.in-Some.slot there (sym c.holds_back_at.ensures ∙ c.if-holds_back_at.true))
