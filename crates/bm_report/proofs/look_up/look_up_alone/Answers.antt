use Rattle.std.proofs.Common.{[], subst, sym, ◌∙◌}
use Rattle.bm_arena.specs.Contents.{Contents}
use Rattle.bm_report.specs.Ready.{HasReplica}
use Rattle.bm_report.proofs.KnownNumbers.{head_there}
use Rattle.bm_report.proofs.Aborts.{naming-none, naming-chain}
use Rattle.bm_report.proofs.Preparation.{prepared-chain}
use Rattle.bm_report.proofs.look_up.look_up_alone.Goals as goal

pub returns-in_err-reserve_head-clause-there : goal.returns-in_err-reserve_head-clause-there
returns-in_err-reserve_head-clause-there c there = (c.reserve_head.ensures.had (head_there c.args.arena.now c.args.storage c.args.id there c.show_invariant.ensures)).1

pub returns-clause-there : goal.returns-clause-there
returns-clause-there c there =
    let same = (c.reserve_head.ensures.had (head_there c.args.arena.now c.args.storage c.args.id there c.show_invariant.ensures)).1 in
    c.look_up_number.ensures.there (subst (λ (a : Contents). HasReplica a c.args.storage c.args.id) (sym same) there) ∙ same

pub returns-clause-kept : goal.returns-clause-kept
returns-clause-kept c = prepared-chain c.args.arena.now c.reserve_head.new.arena c.look_up_number.new.arena c.reserve_head.ensures.kept c.look_up_number.ensures.kept

pub returns-clause-fresh : goal.returns-clause-fresh
returns-clause-fresh c =
    let none = naming-none c.args.arena.now c.reserve_head.new.arena [] c.clear.new.self.items c.reserve_head.ensures.numbers c.clear.ensures.items in
    naming-chain c.args.arena.now c.reserve_head.new.arena c.look_up_number.new.arena [] c.clear.new.self.items c.look_up_number.new.named.items none c.look_up_number.ensures.fresh
