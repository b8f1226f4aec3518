use Rattle.std.proofs.Common.{◌≡◌, Some, sym, ap, ◌∙◌}
use Rattle.bm_arena.specs.Contents.{slot_of}
use Rattle.bm_levels.proofs.UnusedEntries.{unused_gone}
use Rattle.bm_shard.proofs.UnusedEntries.{prepared_entry}
use Rattle.bm_shard.proofs.events.drop_prepared.Goals as goal

pub returns-in-Some-clause-left : goal.returns-in-Some-clause-left
returns-in-Some-clause-left c b is unused =
    let a = c.args.blocks.now.arena in
    let d = c.drop_if_unused.ensures in
    let led : slot_of a b ≡ Some c.in-Some.slot = ap (slot_of a) (sym (prepared_entry c.args.prepared c.args.report.now c.in-Entry.id b c.in-Entry.is is)) ∙ sym c.in-Some.ensures in
    unused_gone a c.drop_if_unused.new.self.arena c.in-Some.slot d.blocks d.replicas d.numbers d.gone b led unused
