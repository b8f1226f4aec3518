use Rattle.std.proofs.Common.{◌+◌, ap, refl, ◌∙◌, arith}
use Rattle.std.proofs.lemmas.Option.{slice_get_read}
use Rattle.bm_base.specs.Maps.Map.{insert}
use Rattle.bm_place.specs.declared.holders.Holder.{Holder}
use Rattle.bm_place.specs.Holders.{count_among}
use Rattle.bm_place.specs.Tables.{count_at}
use Rattle.bm_place.proofs.Tables.{count-empty}
use Rattle.bm_place.proofs.Surplus.{counted_next, skipped_next, count_fits}
use Rattle.bm_base.proofs.Slices.{drop_next}
use Rattle.bm_place.proofs.sorted_excess.count_racks.Goals as goal

pub loop-holder-init : goal.loop-holder-init
loop-holder-init c r = let none = ap (λ m. count_at m r) c.clear.ensures ∙ count-empty r in omega (arith, none)

pub loop-holder-preserved-in_default : goal.loop-holder-preserved-in_default
loop-holder-preserved-in_default c =
    let holders = c.args.holders.now in
    let i = c.loop-holder.holder-index in
    let h = c.holder-item.result in
    let next = drop_next holders i h (slice_get_read holders _ i h refl c.loop-holder-test.true c.holder-item.is) in
    skipped_next (λ (g : Holder). g.rack) c.loop-holder.counts.map holders i h (count_among holders) next c.in_default.is c.loop-holder.invariant

pub overflow_add-count : goal.overflow_add-count
overflow_add-count c =
    let holders = c.args.holders.now in
    let i = c.loop-holder.holder-index in
    let h = c.holder-item.result in
    let next = drop_next holders i h (slice_get_read holders _ i h refl c.loop-holder-test.true c.holder-item.is) in
    let fits = count_fits (λ (g : Holder). g.rack) c.loop-holder.counts.map holders i h c.in-Some.rack next c.in-Some.is c.loop-holder.invariant in
    omega (arith, fits, c.count_on-count.ensures)

pub loop-holder-preserved : goal.loop-holder-preserved
loop-holder-preserved c =
    let holders = c.args.holders.now in
    let i = c.loop-holder.holder-index in
    let h = c.holder-item.result in
    let next = drop_next holders i h (slice_get_read holders _ i h refl c.loop-holder-test.true c.holder-item.is) in
    let is = c.in_ok-insert.ensures.ok ∙ ap (λ k. insert c.loop-holder.counts.map k (c.count_on-count.result + 1)) (c.from.ensures ∙ c.rack.view_is) in
    counted_next (λ (g : Holder). g.rack) c.loop-holder.counts.map c.insert.new.self.map holders i h c.in-Some.rack (c.count_on-count.result + 1) (count_among holders) next c.in-Some.is
    (ap (λ n. n + 1) c.count_on-count.ensures) is c.loop-holder.invariant
