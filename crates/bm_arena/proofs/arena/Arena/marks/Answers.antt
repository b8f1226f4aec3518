use Rattle.std.proofs.Common.{sym, ap, ◌∙◌}
use Rattle.std.specs.Option.{option_map}
use Rattle.bm_arena.proofs.EntryViews.{marks-seen, marks_of}
use Rattle.bm_arena.proofs.arena.Arena.marks.Goals as goal

pub returns-in-Some : goal.returns-in-Some
returns-in-Some c =
    rw (← c.self.view_is, ← c.storage.view_is) (sym (marks-seen c.self.inside.slots c.args.slot c.storage.inside.0 ∙ ap (option_map marks_of) (sym c.in-Some.ensures)))

pub returns-in-None : goal.returns-in-None
returns-in-None c =
    rw (← c.self.view_is, ← c.storage.view_is) (sym (marks-seen c.self.inside.slots c.args.slot c.storage.inside.0 ∙ ap (option_map marks_of) (sym c.in-None.ensures)))
