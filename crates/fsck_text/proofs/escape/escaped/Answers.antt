use Rattle.std.proofs.Common.{[], ◌++◌, sym, ap, ◌∙◌}
use Rattle.std.proofs.lemmas.Iterator.{YieldsList-from_chars}
use Rattle.std.proofs.lemmas.Iterator.Consumers.{YieldsList-end}
use Rattle.std.proofs.lemmas.List.{map-id, flat_map_more}
use Rattle.std.specs.List.{flat_map}
use Rattle.fsck_text.specs.Escapes.{printed, escaped}
use Rattle.fsck_text.proofs.escape.escaped.Goals as goal

pub loop-letter-preserved : goal.loop-letter-preserved
loop-letter-preserved c =
    c.in_ok-push_printed.ensures ∙ ap (λ xs. xs ++ printed c.in-Some.letter) c.loop-letter.invariant
    ∙ flat_map_more printed [] c.loop-letter.yielded c.in-Some.letter

pub returns : goal.returns
unfolding escaped
returns c =
    let start = YieldsList-from_chars c.args.text.now c.utf8.text (rw c.into_iter-letter-iterator.ensures.into_iter_gives c.chars-letter-items.ensures.rest) in
    let all = YieldsList-end start c.loop-letter.yielded _ c.loop-letter.yielded_by _ _ c.in-None.is c.next.ensures.steps in
    c.loop-letter.invariant ∙ ap (flat_map printed) (sym (map-id c.loop-letter.yielded) ∙ all.0)
