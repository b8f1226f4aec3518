use Rattle.std.proofs.Common.{rules, ◌≡◌, Ok, false, OnOk, IfErr, subst, sym, ◌∙◌}
use Rattle.fsck_text.specs.Feeds.{goes_on}
use Rattle.fsck_import.specs.Causes.{IsCause}
use Rattle.fsck_import.proofs.FeedLemmas.{first_whole, none_read}
use Rattle.fsck_import.proofs.text_reader.ReadingTakesLines.take_line.Goals as goal

pub take_whole-requires : goal.take_whole-requires
take_whole-requires c = none_read c.args.self.now.path (sym c.is_empty.ensures ∙ c.if-is_empty.true)

pub returns-then-not-goes_on-clause-ok : goal.returns-then-not-goes_on-clause-ok
returns-then-not-goes_on-clause-ok c =
    let ends : goes_on c.args.line.now ≡ false = search rules in
    subst (λ r. OnOk c.take_whole.result (r ≡ Ok c.take_whole.new.self))
    (sym (first_whole c.args.self.now c.args.line.now (none_read c.args.self.now.path (sym c.is_empty.ensures ∙ c.if-is_empty.true)) ends)) c.take_whole.ensures.ok

pub returns-then-not-goes_on-clause-refused : goal.returns-then-not-goes_on-clause-refused
returns-then-not-goes_on-clause-refused c =
    let ends : goes_on c.args.line.now ≡ false = search rules in
    subst (λ r. IfErr c.take_whole.result (λ f. IsCause f r))
    (sym (first_whole c.args.self.now c.args.line.now (none_read c.args.self.now.path (sym c.is_empty.ensures ∙ c.if-is_empty.true)) ends)) c.take_whole.ensures.refused
