use Rattle.std.proofs.Common.{[], refl, subst, sym, ◌∙◌}
use Rattle.bm_arena.specs.Contents.{Contents}
use Rattle.bm_report.specs.ReportedBlocks.{reported_to_part}
use Rattle.bm_report.specs.Ready.{HaveReplicas}
use Rattle.bm_report.proofs.Aborts.{naming-none, naming-chain}
use Rattle.bm_report.proofs.Preparation.{prepared-chain}
use Rattle.bm_report.proofs.look_up.look_up.Goals as goal

pub returns-clause-there : goal.returns-clause-there
returns-clause-there c head there =
    let same = (c.reserve_head.ensures.had head).1 in
    c.look_up_all.ensures.there (subst (λ (a : Contents). HaveReplicas a c.args.storage (reported_to_part c.args.part c.args.entries.now)) (sym same) there) ∙ same

pub returns-clause-kept : goal.returns-clause-kept
returns-clause-kept c = prepared-chain c.args.arena.now c.reserve_head.new.arena c.look_up_all.new.arena c.reserve_head.ensures.kept c.look_up_all.ensures.kept

pub returns-clause-fresh : goal.returns-clause-fresh
returns-clause-fresh c =
    let none = naming-none c.args.arena.now c.reserve_head.new.arena [] [] c.reserve_head.ensures.numbers refl in
    naming-chain c.args.arena.now c.reserve_head.new.arena c.look_up_all.new.arena [] [] c.look_up_all.new.named.items none c.look_up_all.ensures.fresh
