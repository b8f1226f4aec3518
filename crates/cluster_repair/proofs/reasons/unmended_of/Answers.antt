use Rattle.std.proofs.Common.{arith, subst, take_all}
use Rattle.cluster_repair.specs.Rows.{AreFound}
use Rattle.cluster_repair.proofs.UnmendedLemmas.{all_found}
use Rattle.cluster_repair.proofs.reasons.unmended_of.Goals as goal

pub returns-clause-levels : goal.returns-clause-levels
returns-clause-levels c =
    all_found c.args.session.now.manager c.args.blocks.now c.loop-number.found.items c.requires
    (subst (λ bs. AreFound c.args.session.now.manager bs c.loop-number.found.items) (take_all c.loop-number.number-index c.args.blocks.now (omega (arith, c.loop-number-test.false))) c.loop-number.invariant.found)
