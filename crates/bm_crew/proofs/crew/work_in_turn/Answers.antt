use Rattle.std.proofs.Common.{rules, arith, ◌≡◌, ◌≤◌, refl, ap, sym, subst, ◌∷◌, [], length, length-append, vec_capacity}
use Rattle.std.proofs.lemmas.Slice.Zip.{AllZip-long}
use Rattle.std.specs.List.{AllZip}
use Rattle.bm_crew.specs.Work.{IsResultOf}
use Rattle.bm_crew.proofs.Zips.{take_one, zip_push, none_left, has_capacity}
use Rattle.bm_crew.proofs.AppendedLists.{all_next}
use Rattle.bm_crew.proofs.crew.work_in_turn.Goals as goal

pub loop-shard-preserved : goal.loop-shard-preserved
loop-shard-preserved g c =
    let inv = c.loop-shard.invariant in (
      take_one _ _ _ _ _ inv.0 c.in-Some.ensures.steps.0,
      rw c.push_reserved.ensures.items (zip_push (IsResultOf (goal.J-post g c.args.job.now)) c.loop-shard.yielded c.loop-shard.results.items (c.in-Some.shard, c.in-Some.piece) (c.in-Some.shard, c.job.result) inv.1 (refl, c.job.ensures)),
      omega (arith, inv.2, length-append c.loop-shard.yielded ((c.in-Some.shard, c.in-Some.piece) ∷ []), c.push_reserved.ensures.len),
      search rules,
    )

pub returns-clause-len : goal.returns-clause-len
returns-clause-len g c =
    let none : length c.loop-shard.shard-iterator.rest.items ≡ 0 = omega (arith, c.in-None.ensures.steps.0, c.loop-shard.shard-iterator.rest.ok) in
    let whole : c.args.items.items ≡ c.loop-shard.yielded = none_left _ _ _ c.loop-shard.invariant.0 none in
    let long = AllZip-long (IsResultOf (goal.J-post g c.args.job.now)) c.loop-shard.yielded c.loop-shard.results.items c.loop-shard.invariant.1 in
    omega (arith, long, ap length whole, c.loop-shard.results.ok.0, c.args.items.ok.0)

pub returns-clause-each : goal.returns-clause-each
returns-clause-each g c =
    let none : length c.loop-shard.shard-iterator.rest.items ≡ 0 = omega (arith, c.in-None.ensures.steps.0, c.loop-shard.shard-iterator.rest.ok) in
    let whole : c.args.items.items ≡ c.loop-shard.yielded = none_left _ _ _ c.loop-shard.invariant.0 none in
    rw whole c.loop-shard.invariant.1

pub loop-shard-init : goal.loop-shard-init
loop-shard-init g c = (
  sym c.into_iter-shard-iterator.ensures.into_iter_gives.0,
  subst (λ l. AllZip (IsResultOf (goal.J-post g c.args.job.now)) [] l) (sym c.requires.capacity.0) tt,
  omega (arith, c.args.results.ok.0, ap length c.requires.capacity.0),
  c.requires.capacity.1,
)

pub next-requires : goal.next-requires
next-requires g c = tt

pub job-requires : goal.job-requires
job-requires g c = all_next (λ item. goal.J-pre g c.args.job.now item.0 item.1) _ _ _ _ (c.in-Some.shard, c.in-Some.piece) c.loop-shard.invariant.0 c.in-Some.ensures.steps.0 c.requires.accepts

pub push_reserved-requires : goal.push_reserved-requires
push_reserved-requires g c =
    let inv = c.loop-shard.invariant in
    has_capacity _ _ _ _ _ _ _ inv.0 c.in-Some.ensures.steps.0 inv.2 (subst (λ n. n ≤ vec_capacity c.loop-shard.results) c.args.items.ok.0 inv.3)

pub loop-shard-smaller : goal.loop-shard-smaller
loop-shard-smaller g c = (c.in-Some.ensures.goes.on tt).2
