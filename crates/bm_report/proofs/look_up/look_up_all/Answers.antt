use Rattle.std.proofs.Common.{[], ◌++◌, List, map, sym, subst, ap, ◌∙◌}
use Rattle.std.specs.Slice.Iter.{chunks_rest}
use Rattle.std.proofs.lemmas.List.{nil_from_length}
use Rattle.std.proofs.lemmas.Bool.{false_from_ne_true}
use Rattle.bm_report.specs.declared.types.ReportedSlot.{ReportedSlot}
use Rattle.bm_report.specs.AbortedReport.{NamesNew}
use Rattle.bm_arena.specs.Contents.{Contents}
use Rattle.bm_report.specs.ReportedBlocks.{reported_to_part}
use Rattle.bm_report.specs.DuringReport.{reported_of}
use Rattle.bm_report.specs.Ready.{HaveReplicas}
use Rattle.bm_report.proofs.Aborts.{naming-chain}
use Rattle.bm_report.proofs.Preparation.{prepared-chain}
use Rattle.bm_report.proofs.NumberRuns.{chunk_on, chunks_end}
use Rattle.bm_report.proofs.NamedNumbers.{named_apart, chunk_named, left_named}
use Rattle.bm_report.proofs.look_up.look_up_all.Goals as goal

pub loop-chunk-preserved : goal.loop-chunk-preserved
loop-chunk-preserved c =
    let part = c.args.part in
    let chunk = c.in-Some.chunk.now in
    let left = chunks_rest c.next.new.self in
    let whole = c.in-Some.ensures.steps.1.0 in
    let inv = c.loop-chunk.invariant in
    record {
      finite = tt;
      fresh = naming-chain c.args.arena.now c.loop-chunk.arena c.look_up_chunk.new.arena [] c.loop-chunk.named.items c.look_up_chunk.new.named.items inv.fresh
          (subst (λ (l : List ReportedSlot). NamesNew c.loop-chunk.arena c.look_up_chunk.new.arena l c.look_up_chunk.new.named.items) c.read_ahead.ensures.named c.look_up_chunk.ensures.fresh);
      kept = prepared-chain c.args.arena.now c.loop-chunk.arena c.look_up_chunk.new.arena inv.kept c.look_up_chunk.ensures.kept;
      here = c.in_ok-look_up_chunk.ensures.here;
      capacity = c.in_ok-look_up_chunk.ensures.capacity;
      others = λ b out. c.look_up_chunk.ensures.others b (false_from_ne_true _ (λ in_it. named_apart _ b out (chunk_named part c.args.entries.now _ chunk left whole inv.rest b in_it))) ∙ inv.others b out;
      rest = left_named part c.args.entries.now _ chunk left whole inv.rest;
      there = λ h.
          let same = inv.there h in
          c.look_up_chunk.ensures.there (subst (λ (a : Contents). HaveReplicas a c.args.storage (reported_to_part part chunk)) (sym same) (λ b in_it. h b (chunk_named part c.args.entries.now _ chunk left whole inv.rest b in_it))) ∙ same;
      named =
          chunk_on part chunk left (map reported_of c.loop-chunk.named.items) (map reported_of c.look_up_chunk.new.named.items) _
          (ap (λ es. map reported_of c.loop-chunk.named.items ++ reported_to_part part es) (sym whole) ∙ inv.named)
          (c.in_ok-look_up_chunk.ensures.named ∙ ap (λ l. map reported_of l ++ reported_to_part part chunk) c.read_ahead.ensures.named);
    }

pub returns-clause-named : goal.returns-clause-named
returns-clause-named c =
    chunks_end c.args.part (map reported_of c.loop-chunk.named.items) _
    (ap (λ es. map reported_of c.loop-chunk.named.items ++ reported_to_part c.args.part es) (sym (nil_from_length _ c.in-None.ensures.steps.1.0)) ∙ c.loop-chunk.invariant.named)

pub returns-in_err-look_up_chunk-clause-kept : goal.returns-in_err-look_up_chunk-clause-kept
returns-in_err-look_up_chunk-clause-kept c = prepared-chain c.args.arena.now c.loop-chunk.arena c.look_up_chunk.new.arena c.loop-chunk.invariant.kept c.look_up_chunk.ensures.kept

pub returns-in_err-look_up_chunk-clause-others : goal.returns-in_err-look_up_chunk-clause-others
returns-in_err-look_up_chunk-clause-others c b out =
    let inv = c.loop-chunk.invariant in
    c.look_up_chunk.ensures.others b (false_from_ne_true _ (λ in_it. named_apart _ b out (chunk_named c.args.part c.args.entries.now _ c.in-Some.chunk.now (chunks_rest c.next.new.self) c.in-Some.ensures.steps.1.0 inv.rest b in_it))) ∙ inv.others b out

pub returns-in_err-look_up_chunk-clause-there : goal.returns-in_err-look_up_chunk-clause-there
returns-in_err-look_up_chunk-clause-there c h =
    let inv = c.loop-chunk.invariant in
    let same = inv.there h in
    c.look_up_chunk.ensures.there
    (subst (λ (a : Contents). HaveReplicas a c.args.storage (reported_to_part c.args.part c.in-Some.chunk.now)) (sym same) (λ b in_it. h b (chunk_named c.args.part c.args.entries.now _ c.in-Some.chunk.now (chunks_rest c.next.new.self) c.in-Some.ensures.steps.1.0 inv.rest b in_it)))
    ∙ same

pub returns-in_err-look_up_chunk-clause-fresh : goal.returns-in_err-look_up_chunk-clause-fresh
returns-in_err-look_up_chunk-clause-fresh c =
    naming-chain c.args.arena.now c.loop-chunk.arena c.look_up_chunk.new.arena [] c.loop-chunk.named.items c.look_up_chunk.new.named.items c.loop-chunk.invariant.fresh
    (subst (λ (l : List ReportedSlot). NamesNew c.loop-chunk.arena c.look_up_chunk.new.arena l c.look_up_chunk.new.named.items) c.read_ahead.ensures.named c.look_up_chunk.ensures.fresh)

pub returns-in_err-read_ahead-clause-fresh : goal.returns-in_err-read_ahead-clause-fresh
returns-in_err-read_ahead-clause-fresh c =
    subst (λ (l : List ReportedSlot). NamesNew c.args.arena.now c.loop-chunk.arena [] l) (sym c.read_ahead.ensures.named) c.loop-chunk.invariant.fresh
