use Rattle.std.proofs.Common.{◌∙◌, cond, Some, refl, ap, sym, arith}
use Rattle.std.proofs.lemmas.Option.{slice_get_read, slice_get_within}
use Rattle.bm_base.specs.Maps.Map.{by_number, get}
use Rattle.bm_base.proofs.MapLaws.{get-empty}
use Rattle.cluster_lost.specs.Deaths.{is_among}
use Rattle.cluster_losses.specs.declared.failure_domains.FailureDomain.{FailureDomain}
use Rattle.cluster_losses.proofs.RowIndexLemmas.{no_rows, rows_more}
use Rattle.cluster_losses.proofs.row_index.rows_of_nodes.Goals as goal

pub loop-index-init : goal.loop-index-init
loop-index-init c = no_rows c.args.domains.now (get c.new-rows.result.map) (λ n. ap (λ m. get m n) c.new-rows.ensures.empty ∙ get-empty by_number n)

pub loop-index-preserved : goal.loop-index-preserved
loop-index-preserved c =
    let i = c.loop-index.index in
    let old = get c.loop-index.rows.map in
    rows_more i c.args.domains.now c.index-domains-index.result (slice_get_read c.args.domains.now _ i c.index-domains-index.result refl c.loop-index-test.true c.index-domains-index.is)
    c.requires old (get c.add_nodes.new.rows.map) (λ n. c.in_ok-add_nodes.ensures n ∙ ap (λ ns. cond (is_among ns n) (Some i) (old n)) (c.as_slice.ensures ∙ ap (λ (d : FailureDomain). d.nodes) (sym c.index-domains-index.is))) c.loop-index.invariant

pub returns : goal.returns
returns c = λ k d here n. c.loop-index.invariant.each k d (let low = slice_get_within c.args.domains.now k d here in omega (arith, low, c.loop-index-test.false)) here n
