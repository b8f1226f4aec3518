use Rattle.std.proofs.Common.{◌∙◌, ◌++◌, ◌+◌, ◌∷◌, [], length, take, take_all, refl, ap, sym, subst, arith}
use Rattle.std.specs.Prelude.{slice_get}
use Rattle.std.proofs.lemmas.Option.{slice_get_read}
use Rattle.std.specs.List.{AllZip}
use Rattle.std.proofs.lemmas.List.{take_more}
use Rattle.cluster_losses.specs.declared.failure_domains.FailureDomain.{FailureDomain}
use Rattle.cluster_losses.specs.Tables.{IsRowAt}
use Rattle.cluster_losses.proofs.Tables.{zip_and}
use Rattle.cluster_losses.proofs.single_losses.rows_of.Goals as goal

pub loop-index-init : goal.loop-index-init
loop-index-init c = subst (λ vs. AllZip (IsRowAt c.args.loaded.now.files c.args.loaded.now.session.manager) [] vs) (sym c.new-rows.ensures.items) tt

pub loop-index-preserved : goal.loop-index-preserved
loop-index-preserved c =
    let f = c.args.loaded.now.files in
    let M = c.args.loaded.now.session.manager in
    let domains = c.args.domains.now in
    let i = c.loop-index.index in
    let domain = c.index-domains-index.result in
    zip_and (IsRowAt f M) (take i domains) (take (i + 1) domains) c.loop-index.rows.items _ domain c.in_ok-row.row
    (take_more domains i domain c.loop-index-test.true ∙ ap (λ (p : FailureDomain). take i domains ++ p ∷ []) (sym c.index-domains-index.is)) c.in_ok-push.ensures.items
    c.loop-index.invariant c.in_ok-row.ensures

pub make_row-requires-clause-tallied : goal.make_row-requires-clause-tallied
make_row-requires-clause-tallied c =
    let i = c.loop-index.index in
    let low = c.loop-index-test.true in
    let count = c.requires.tallied.count in
    let rows = c.as_slice-tallies.ensures.value in
    let as_many = ap length rows in
    c.requires.tallied.each i c.index-domains-index.result c.index-tallies-index.result
    (slice_get_read c.args.domains.now _ i c.index-domains-index.result refl low c.index-domains-index.is)
    (ap (λ rs. slice_get rs i) (sym rows) ∙ slice_get_read c.as_slice-tallies.result.now _ i c.index-tallies-index.result refl (omega (arith, low, count, as_many)) c.index-tallies-index.is)

pub returns : goal.returns
returns c =
    subst (λ ps. AllZip (IsRowAt c.args.loaded.now.files c.args.loaded.now.session.manager) ps c.loop-index.rows.items) (take_all c.loop-index.index c.args.domains.now (omega (arith, c.loop-index-test.false)))
    c.loop-index.invariant
