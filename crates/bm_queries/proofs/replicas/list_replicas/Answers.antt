use Rattle.std.proofs.Common.{List, ◌+◌, ◌++◌, drop, is_some, ap, sym, subst, ◌∙◌, arith, rules}
use Rattle.std.specs.List.Sorted.{IsPermutation}
use Rattle.std.proofs.lemmas.List.{append-nil}
use Rattle.std.proofs.lemmas.List.Sorted.{answers_always}
use Rattle.bm_base.specs.declared.replica.Replica.{Replica}
use Rattle.bm_parts.specs.QueryLaws.{replica_key}
use Rattle.bm_arena.specs.Contents.{Contents}
use Rattle.bm_levels.specs.SlotHoldings.{holdings_with}
use Rattle.bm_levels.specs.IndexedLevels.{indexed_slots}
use Rattle.bm_levels.proofs.StatusUpdates.{among_next}
use Rattle.bm_levels.proofs.Slots.{led_next, led_none, led_end}
use Rattle.bm_queries.specs.ListedElements.{wants, listed_on, replicas_passing}
use Rattle.bm_queries.proofs.FoundReplicas.{sorted_replicas}
use Rattle.bm_queries.proofs.IndexedSlots.{own_among}
use Rattle.bm_queries.proofs.GatheredReplicas.{put_slot}
use Rattle.bm_queries.proofs.replicas.list_replicas.Goals as goal
use Rattle.bm_queries.proofs.replicas.list_replicas.Goals.{in-Some+in_ok-push_replicas, in_default}

pub push_replicas-requires : goal.push_replicas-requires
push_replicas-requires c =
    let a = c.arena-arena.result.now in
    let i = c.loop-index.index in
    let there = among_next (indexed_slots a) (drop (i + 1) (indexed_slots a)) i c.in-Some.slot (led_next a i c.in-Some.slot c.in-Some.ensures) in
    ap is_some (own_among a c.show_invariant.ensures c.in-Some.slot there).here

pub loop-index-preserved : goal.loop-index-preserved
loop-index-preserved c =
    let a = c.arena-arena.result.now in
    let p = wants c.args.wanted in
    let i = c.loop-index.index in
    let rest = drop (i + 1) (indexed_slots a) in
    elim c.match-slot_at.branch [
      | in-Some+in_ok-push_replicas w ↦
          ap (λ v. v.items ++ listed_on p a rest) w.all-is
          ∙ ap (λ xs. xs ++ listed_on p a rest) w.in_ok-push_replicas.ensures.items
          ∙ put_slot p a c.loop-index.all.items (drop i (indexed_slots a)) rest w.in-Some.slot (led_next a i w.in-Some.slot w.in-Some.ensures)
          ∙ c.loop-index.invariant
      | in_default w ↦ absurd (led_none a i (sym w.in_default.ensures) (omega (arith, c.loop-index-test.true, c.count-index-end.ensures)))
    ]

pub returns-clause-items : goal.returns-clause-items
unfolding holdings_with
returns-clause-items c pending =
    let a = c.arena-arena.result.now in
    let p = wants c.args.wanted in
    let past = led_end a c.loop-index.index (omega (arith, c.loop-index-test.false, c.count-index-end.ensures)) in
    let all = sym (ap (λ l. c.loop-index.all.items ++ listed_on p a l) past ∙ append-nil c.loop-index.all.items) ∙ c.loop-index.invariant in
    let P : List Replica → Type 0 = λ xs. IsPermutation xs c.sort_by_key.new.self.items in
    sorted_replicas p a c.show_invariant.ensures c.sort_by_key.new.self.items (subst P all c.sort_by_key.ensures.permutation) (c.in_ok-sort_by_key.ensures.sorted replica_key (answers_always _ _ _ (λ f a r g h. search rules)))
    ∙ ap (λ (a : Contents). replicas_passing p (holdings_with a pending).replicas) c.arena-arena.ensures
