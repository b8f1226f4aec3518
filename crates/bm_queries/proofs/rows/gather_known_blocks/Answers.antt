use Rattle.std.proofs.Common.{◌+◌, ◌++◌, drop, is_some, ap, sym, ◌∙◌, arith}
use Rattle.std.proofs.lemmas.List.{append-nil}
use Rattle.bm_levels.specs.IndexedLevels.{indexed_slots}
use Rattle.bm_levels.proofs.StatusUpdates.{among_next}
use Rattle.bm_levels.proofs.Slots.{led_next, led_none, led_end}
use Rattle.bm_queries.specs.ListedElements.{known_on}
use Rattle.bm_queries.proofs.IndexedSlots.{own_among}
use Rattle.bm_queries.proofs.KnownBlocks.{put_known}
use Rattle.bm_queries.proofs.rows.gather_known_blocks.Goals as goal
use Rattle.bm_queries.proofs.rows.gather_known_blocks.Goals.{in-Some+in_ok-push_known, in_default}

pub push_known-requires : goal.push_known-requires
push_known-requires c =
    let a = c.args.arena.now in
    let i = c.loop-index.index in
    let there = among_next (indexed_slots a) (drop (i + 1) (indexed_slots a)) i c.in-Some.slot (led_next a i c.in-Some.slot c.in-Some.ensures) in
    ap is_some (own_among a c.show_invariant.ensures c.in-Some.slot there).here

pub loop-index-preserved : goal.loop-index-preserved
loop-index-preserved c =
    let a = c.args.arena.now in
    let i = c.loop-index.index in
    let rest = drop (i + 1) (indexed_slots a) in
    elim c.match-slot_at.branch [
      | in-Some+in_ok-push_known w ↦
          ap (λ v. v.items ++ known_on a rest) w.known-is
          ∙ ap (λ xs. xs ++ known_on a rest) w.in_ok-push_known.ensures.items
          ∙ put_known a c.loop-index.known.items (drop i (indexed_slots a)) rest w.in-Some.slot (led_next a i w.in-Some.slot w.in-Some.ensures)
          ∙ c.loop-index.invariant
      | in_default w ↦ absurd (led_none a i (sym w.in_default.ensures) (omega (arith, c.loop-index-test.true, c.count-index-end.ensures)))
    ]

pub returns-clause-items : goal.returns-clause-items
returns-clause-items c =
    let a = c.args.arena.now in
    let past = led_end a c.loop-index.index (omega (arith, c.loop-index-test.false, c.count-index-end.ensures)) in
    sym (ap (λ l. c.loop-index.known.items ++ known_on a l) past ∙ append-nil c.loop-index.known.items) ∙ c.loop-index.invariant
