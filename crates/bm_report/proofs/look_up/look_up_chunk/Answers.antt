use Rattle.std.proofs.Common.{length, refl, sym, subst, ◌∙◌, map}
use Rattle.std.proofs.lemmas.Option.{slice_get_read}
use Rattle.std.proofs.lemmas.Bool.{false_from_ne_true}
use Rattle.bm_arena.specs.Contents.{Contents}
use Rattle.bm_base.specs.Machine.Entries.{blocks_of_entry}
use Rattle.bm_report.specs.ReportedBlocks.{of_part}
use Rattle.bm_report.specs.DuringReport.{reported_of}
use Rattle.bm_report.specs.Ready.{HaveReplicas}
use Rattle.bm_report.proofs.Aborts.{naming-none, naming-chain}
use Rattle.bm_report.proofs.Preparation.{prepared-none, prepared-chain}
use Rattle.bm_report.proofs.NumberRuns.{reported_on, reported_end}
use Rattle.bm_report.proofs.NamedNumbers.{named_apart, entry_named, rest_named}
use Rattle.bm_report.proofs.look_up.look_up_chunk.Goals as goal

pub loop-entry-preserved : goal.loop-entry-preserved
loop-entry-preserved c =
    let at = slice_get_read c.args.chunk.now (length c.args.chunk.now) c.loop-entry.entry-index c.entry-item.result refl c.loop-entry-test.true c.entry-item.is in record {
      fresh = naming-chain c.args.arena.now c.loop-entry.arena c.look_up_run.new.arena c.args.named.now.items c.loop-entry.named.items c.look_up_run.new.named.items c.loop-entry.invariant.fresh c.look_up_run.ensures.fresh;
      kept = prepared-chain c.args.arena.now c.loop-entry.arena c.look_up_run.new.arena c.loop-entry.invariant.kept c.look_up_run.ensures.kept;
      here = c.in_ok-look_up_run.ensures.here;
      capacity = c.in_ok-look_up_run.ensures.capacity;
      others = λ b out.
          c.look_up_run.ensures.others b (false_from_ne_true _ (λ in_it. named_apart _ b out (c.loop-entry.invariant.rest b (entry_named c.args.part c.args.chunk.now c.loop-entry.entry-index c.entry-item.result b at in_it)))) ∙ c.loop-entry.invariant.others b out;
      rest = λ b in_it. c.loop-entry.invariant.rest b (rest_named c.args.part c.args.chunk.now c.loop-entry.entry-index c.entry-item.result b at in_it);
      there = λ h.
          let same = c.loop-entry.invariant.there h in
          c.look_up_run.ensures.there (subst (λ (a : Contents). HaveReplicas a c.args.storage (of_part c.args.part (blocks_of_entry c.entry-item.result))) (sym same) (λ b in_it. h b (c.loop-entry.invariant.rest b (entry_named c.args.part c.args.chunk.now c.loop-entry.entry-index c.entry-item.result b at in_it)))) ∙ same;
      named =
          reported_on c.args.part c.args.chunk.now c.loop-entry.entry-index c.entry-item.result (map reported_of c.loop-entry.named.items) (map reported_of c.look_up_run.new.named.items) _ at c.loop-entry.invariant.named
          c.in_ok-look_up_run.ensures.named;
    }

pub returns-clause-named : goal.returns-clause-named
returns-clause-named c =
    reported_end c.args.part c.args.chunk.now c.loop-entry.entry-index (map reported_of c.loop-entry.named.items) _ c.loop-entry-test.false c.loop-entry.invariant.named

pub returns-in_err-look_up_run-clause-others : goal.returns-in_err-look_up_run-clause-others
returns-in_err-look_up_run-clause-others c b out =
    let at = slice_get_read c.args.chunk.now (length c.args.chunk.now) c.loop-entry.entry-index c.entry-item.result refl c.loop-entry-test.true c.entry-item.is in
    c.look_up_run.ensures.others b (false_from_ne_true _ (λ in_it. named_apart _ b out (c.loop-entry.invariant.rest b (entry_named c.args.part c.args.chunk.now c.loop-entry.entry-index c.entry-item.result b at in_it)))) ∙ c.loop-entry.invariant.others b out

pub returns-in_err-look_up_run-clause-there : goal.returns-in_err-look_up_run-clause-there
returns-in_err-look_up_run-clause-there c h =
    let at = slice_get_read c.args.chunk.now (length c.args.chunk.now) c.loop-entry.entry-index c.entry-item.result refl c.loop-entry-test.true c.entry-item.is in
    let same = c.loop-entry.invariant.there h in
    c.look_up_run.ensures.there (subst (λ (a : Contents). HaveReplicas a c.args.storage (of_part c.args.part (blocks_of_entry c.entry-item.result))) (sym same) (λ b in_it. h b (c.loop-entry.invariant.rest b (entry_named c.args.part c.args.chunk.now c.loop-entry.entry-index c.entry-item.result b at in_it)))) ∙ same

pub loop-entry-init : goal.loop-entry-init
loop-entry-init c = record {
  fresh = naming-none c.args.arena.now c.args.arena.now c.args.named.now.items c.args.named.now.items (λ b. refl) refl;
  kept = prepared-none c.args.arena.now;
  here = c.requires.here;
  capacity = c.requires.capacity;
  others = λ b out. refl;
  rest = λ b in_it. in_it;
  there = λ h. refl;
  named = refl;
}

pub returns-in_err-look_up_run-clause-kept : goal.returns-in_err-look_up_run-clause-kept
returns-in_err-look_up_run-clause-kept c = prepared-chain c.args.arena.now c.loop-entry.arena c.look_up_run.new.arena c.loop-entry.invariant.kept c.look_up_run.ensures.kept

pub returns-in_err-look_up_run-clause-fresh : goal.returns-in_err-look_up_run-clause-fresh
returns-in_err-look_up_run-clause-fresh c =
    naming-chain c.args.arena.now c.loop-entry.arena c.look_up_run.new.arena c.args.named.now.items c.loop-entry.named.items c.look_up_run.new.named.items c.loop-entry.invariant.fresh c.look_up_run.ensures.fresh
