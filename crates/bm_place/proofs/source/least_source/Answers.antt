use Rattle.std.proofs.Common.{◌≡◌, ℕ, ap, sym, subst, ◌∙◌}
use Rattle.std.specs.Option.{IfSome}
use Rattle.std.specs.Prelude.{nat_lt}
use Rattle.bm_base.specs.Words.{is_draining, least_source, least_source_by, source_cmp, stream_limit}
use Rattle.bm_place.specs.Tables.{count_at}
use Rattle.bm_place.specs.Sources.{streams_by, transfers_by}
use Rattle.bm_place.specs.Least.{IsLeastOf}
use Rattle.bm_place.specs.ChoiceResults.{IsCountable}
use Rattle.bm_place.proofs.BestElement.{least-bears}
use Rattle.bm_place.proofs.SourceScan.{source_found, source_cmp_total, drained_taken}
use Rattle.bm_place.proofs.TransferCounts.{count_as, streams_as, countable}
use Rattle.bm_place.proofs.source.least_source.Goals as goal

pub returns-clause-found : goal.returns-clause-found
unfolding least_source_by
returns-clause-found c sends made =
    let C = c.args.topology.now.cluster in
    let streams = streams_by C sends in
    let usable = c.args.usable.now in
    let test = λ (s : ℕ). nat_lt (streams s) (stream_limit c.args.level (is_draining C s)) in
    let chosen : c.storage_of.result ≡ least_source_by C streams c.args.level usable =
    c.storage_of.ensures
    ∙ source_found C (streams_by C (count_at c.args.streams.now.counts)) c.args.level c.args.usable.now c.loop-storage.best c.loop-storage.storage-index c.loop-storage-test.false c.loop-storage.invariant
    ∙ ap (λ S. least_source_by C (streams_by C (count_at S.counts)) c.args.level usable) made
    ∙ ap (λ f. least_source_by C f c.args.level usable) (λ i s. count_as C sends s i) in
    let least : IsLeastOf (source_cmp C streams) test usable c.storage_of.result =
    subst (IsLeastOf (source_cmp C streams) test usable) (sym chosen) (least-bears (source_cmp C streams) (source_cmp_total C streams) test usable) in
    record {
      source = record { choice = chosen; least = least; drained_first = drained_taken C streams c.args.level usable c.storage_of.result least };
      countable =
          subst (λ S. IfSome c.storage_of.result (IsCountable S)) (sym made) (countable C sends c.args.level (source_cmp C streams) usable c.storage_of.result least);
    }

pub returns-clause-of_transfers : goal.returns-clause-of_transfers
unfolding least_source
returns-clause-of_transfers c chosen made =
    let C = c.args.topology.now.cluster in
    (returns-clause-found c (transfers_by C chosen) made).source.choice ∙ ap (λ f. least_source_by C f c.args.level c.args.usable.now) (λ i s. streams_as C chosen s i)
