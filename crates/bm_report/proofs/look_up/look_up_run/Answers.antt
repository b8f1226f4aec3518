use Rattle.std.proofs.Common.{◌≡◌, ◌+◌, ◌%◌, ◌≤◌, ◌++◌, ◌∷◌, [], true, map, sym, subst, ap, ◌∙◌, arith}
use Rattle.std.proofs.Math.Nat.{add-mod_right}
use Rattle.bm_base.specs.declared.event.Entry.{Entry}
use Rattle.bm_report.specs.ReportedBlocks.{of_part}
use Rattle.bm_base.specs.Machine.Events.{is_named}
use Rattle.bm_arena.specs.Contents.{Contents}
use Rattle.bm_report.specs.DuringReport.{reported_of}
use Rattle.bm_report.specs.Ready.{HasReplica}
use Rattle.std.proofs.Common.{refl}
use Rattle.bm_report.proofs.Aborts.{naming-none, naming-chain}
use Rattle.bm_report.proofs.Preparation.{prepared-none, prepared-chain}
use Rattle.bm_report.proofs.NumberRuns.{reported_from, reported_first, run_step}
use Rattle.bm_report.proofs.NamedNumbers.{named_apart, next_named, later_named}
use Rattle.bm_report.proofs.look_up.look_up_run.Goals as goal

pub loop-next-init : goal.loop-next-init
loop-next-init c =
    let from : c.entry.inside.0.0 ≡ c.args.entry.now.from = ap (λ (e : Entry). e.from) c.entry.view_is in
    let first_is = reported_first c.args.part c.args.entry.now c.first_of_part-next.result c.requires.index c.first_of_part-next.ensures.of_part (omega (arith, from, c.first_of_part-next.ensures.from)) (omega (arith, from, c.first_of_part-next.ensures.near)) in record {
      fresh = naming-none c.args.arena.now c.args.arena.now c.args.named.now.items c.args.named.now.items (λ b. refl) refl;
      kept = prepared-none c.args.arena.now;
      here = c.requires.here;
      capacity = c.requires.capacity;
      others = λ b out. refl;
      rest = λ b in_it. ap (λ l. is_named l b) first_is ∙ in_it;
      there = λ h. refl;
      own = c.first_of_part-next.ensures.of_part;
      named = sym (ap (λ l. map reported_of c.args.named.now.items ++ l) first_is);
    }

pub loop-next-preserved : goal.loop-next-preserved
loop-next-preserved c =
    let to : c.from-last.result ≡ c.args.entry.now.to = c.from-last.ensures ∙ ap (λ (e : Entry). e.to) c.entry.view_is in
    let within : c.loop-next.next ≤ c.args.entry.now.to = omega (arith, c.loop-next-test.true, to) in record {
      fresh = naming-chain c.args.arena.now c.loop-next.arena c.look_up_number.new.arena c.args.named.now.items c.loop-next.named.items c.look_up_number.new.named.items c.loop-next.invariant.fresh c.look_up_number.ensures.fresh;
      kept = prepared-chain c.args.arena.now c.loop-next.arena c.look_up_number.new.arena c.loop-next.invariant.kept c.look_up_number.ensures.kept;
      here = c.in_ok-look_up_number.ensures.here;
      capacity = c.in_ok-look_up_number.ensures.capacity;
      others = λ b out. c.look_up_number.ensures.others b (λ same. named_apart _ b out (c.loop-next.invariant.rest b (next_named c.args.part c.args.entry.now c.loop-next.next b c.requires.index c.loop-next.invariant.own within same))) ∙ c.loop-next.invariant.others b out;
      rest = λ b in_it.
          let at : is_named (of_part c.args.part (reported_from c.args.entry.now (c.loop-next.next + c.args.part.shards))) b ≡ true = ap (λ k. is_named (of_part c.args.part (reported_from c.args.entry.now (c.loop-next.next + k))) b) (sym c.from-next.ensures) ∙ in_it in
          c.loop-next.invariant.rest b (later_named c.args.part c.args.entry.now c.loop-next.next b c.requires.index c.loop-next.invariant.own within at);
      there = λ h.
          let same = c.loop-next.invariant.there h in
          let named = c.loop-next.invariant.rest c.loop-next.next (next_named c.args.part c.args.entry.now c.loop-next.next c.loop-next.next c.requires.index c.loop-next.invariant.own within refl) in
          c.look_up_number.ensures.there (subst (λ (a : Contents). HasReplica a c.args.storage c.loop-next.next) (sym same) (h c.loop-next.next named)) ∙ same;
      own = ap (λ k. (c.loop-next.next + k) % c.args.part.shards) c.from-next.ensures ∙ add-mod_right c.loop-next.next c.args.part.shards ∙ c.loop-next.invariant.own;
      named = ap (λ k. map reported_of c.look_up_number.new.named.items ++ of_part c.args.part (reported_from c.args.entry.now (c.loop-next.next + k))) c.from-next.ensures ∙ run_step c.args.part c.args.entry.now c.loop-next.next (map reported_of c.loop-next.named.items) (map reported_of c.look_up_number.new.named.items) _ c.requires.index c.loop-next.invariant.own within c.loop-next.invariant.named
          (c.in_ok-look_up_number.ensures.named ∙ ap (λ (e : Entry). map reported_of c.loop-next.named.items ++ record { id = c.loop-next.next; stamp = e.stamp } ∷ []) c.entry.view_is);
    }

pub returns-in_err-look_up_number-clause-kept : goal.returns-in_err-look_up_number-clause-kept
returns-in_err-look_up_number-clause-kept c =
    prepared-chain c.args.arena.now c.loop-next.arena c.look_up_number.new.arena c.loop-next.invariant.kept c.look_up_number.ensures.kept

pub returns-in_err-look_up_number-clause-others : goal.returns-in_err-look_up_number-clause-others
returns-in_err-look_up_number-clause-others c b out =
    let to : c.from-last.result ≡ c.args.entry.now.to = c.from-last.ensures ∙ ap (λ (e : Entry). e.to) c.entry.view_is in
    let within : c.loop-next.next ≤ c.args.entry.now.to = omega (arith, c.loop-next-test.true, to) in
    c.look_up_number.ensures.others b (λ same. named_apart _ b out (c.loop-next.invariant.rest b (next_named c.args.part c.args.entry.now c.loop-next.next b c.requires.index c.loop-next.invariant.own within same))) ∙ c.loop-next.invariant.others b out

pub returns-in_err-look_up_number-clause-there : goal.returns-in_err-look_up_number-clause-there
returns-in_err-look_up_number-clause-there c h =
    let to : c.from-last.result ≡ c.args.entry.now.to = c.from-last.ensures ∙ ap (λ (e : Entry). e.to) c.entry.view_is in
    let within : c.loop-next.next ≤ c.args.entry.now.to = omega (arith, c.loop-next-test.true, to) in
    let same = c.loop-next.invariant.there h in
    let named = c.loop-next.invariant.rest c.loop-next.next (next_named c.args.part c.args.entry.now c.loop-next.next c.loop-next.next c.requires.index c.loop-next.invariant.own within refl) in
    c.look_up_number.ensures.there (subst (λ (a : Contents). HasReplica a c.args.storage c.loop-next.next) (sym same) (h c.loop-next.next named)) ∙ same

pub returns-in_err-look_up_number-clause-fresh : goal.returns-in_err-look_up_number-clause-fresh
returns-in_err-look_up_number-clause-fresh c =
    naming-chain c.args.arena.now c.loop-next.arena c.look_up_number.new.arena c.args.named.now.items c.loop-next.named.items c.look_up_number.new.named.items c.loop-next.invariant.fresh c.look_up_number.ensures.fresh
