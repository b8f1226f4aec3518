use Rattle.std.proofs.Common.{length, false, ◌∙◌, arith}
use Rattle.std.specs.Prelude.{filter_map}
use Rattle.bm_base.specs.Words.{rack_of, racks, is_multi_rack, level_of}
use Rattle.bm_base.proofs.Distinct.{level_of-spread}
use Rattle.bm_round_scan.proofs.RacksSpared.{few_live, not_on_one}
use Rattle.bm_round_scan.proofs.wishes.level_among.Goals as goal

pub returns-then-live-repl : goal.returns-then-live-repl
returns-then-live-repl c =
    let C = c.args.topology.now.cluster in
    c.level_of.ensures ∙ few_live (length c.args.live.now) c.args.drained c.args.repl 0 (length (racks C c.args.live.now)) false (is_multi_rack C) (omega (arith, c.if-live-repl.true))

pub returns-then-racks-ne1 : goal.returns-then-racks-ne1
unfolding racks
returns-then-racks-ne1 c =
    let C = c.args.topology.now.cluster in
    let n = length c.args.live.now in
    c.level_of-then-racks-ne1.ensures
    ∙ not_on_one n c.args.drained c.args.repl c.spread_of-racks.result false (is_multi_rack C) (λ e. absurd (omega (arith, c.if-racks-ne1.true, e)))
    ∙ (λ j. level_of (record { live = n; drained = c.args.drained; wanted = c.args.repl; racks = c.spread_of-racks.ensures j; multi_rack = is_multi_rack C }))
    ∙ level_of-spread n c.args.drained c.args.repl (filter_map (rack_of C) c.args.live.now) (is_multi_rack C)

pub returns : goal.returns
unfolding racks
returns c =
    let C = c.args.topology.now.cluster in
    let n = length c.args.live.now in
    c.level_of-2.ensures
    ∙ (λ j. level_of (record { live = n; drained = c.args.drained; wanted = c.args.repl; racks = c.spread_of-racks.ensures j; multi_rack = c.multi_rack.ensures j }))
    ∙ level_of-spread n c.args.drained c.args.repl (filter_map (rack_of C) c.args.live.now) (is_multi_rack C)
