use Rattle.std.proofs.Common.{◌≤◌, ◌+◌, length, drop, drop_of_length-le, refl, sym, ap, ◌∙◌, arith}
use Rattle.std.specs.Prelude.{slice_get}
use Rattle.bm_pending.specs.PendingMap.{blocks_in}
use Rattle.bm_shard.proofs.Arrivals.{dropped, dropped-next, dropped-end, dropped-all, drop_here}
use Rattle.bm_shard.proofs.arrived_transfers.drop_arrived.Goals as goal

pub loop-index-init : goal.loop-index-init
loop-index-init c = record { places = refl; map = refl }

pub loop-index-preserved : goal.loop-index-preserved
loop-index-preserved c =
    let a = c.args.arena.now in
    let s = c.args.storage in
    let h = c.loop-index.invariant in
    let xs = blocks_in c.args.pending.now in
    let here = drop_here xs c.loop-index.index (omega (arith, c.loop-index-test.true, c.count-index-end.ensures)) in
    let g = c.drop_arrived_at.ensures in
    record {
      places = g.places ∙ h.places;
      map =
          ap (dropped a s (drop (c.loop-index.index + 1) xs)) (g.map here.0 (ap (λ l. slice_get l c.loop-index.index) h.places ∙ here.1))
          ∙ dropped-next a s here.0 (drop (c.loop-index.index + 1) xs) c.loop-index.pending.map
          ∙ sym (ap (λ l. dropped a s l c.loop-index.pending.map) here.2) ∙ h.map;
    }

pub returns : goal.returns
returns c =
    let a = c.args.arena.now in
    let s = c.args.storage in
    let h = c.loop-index.invariant in
    let xs = blocks_in c.args.pending.now in
    let past : length xs ≤ c.loop-index.index = omega (arith, c.loop-index-test.false, c.count-index-end.ensures) in
    sym (dropped-end a s c.loop-index.pending.map) ∙ sym (ap (λ l. dropped a s l c.loop-index.pending.map) (drop_of_length-le _ past))
    ∙ h.map ∙ dropped-all a s xs c.args.pending.now.map c.show_invariant.ensures.listed
