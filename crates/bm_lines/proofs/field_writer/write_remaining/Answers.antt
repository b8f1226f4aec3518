use Rattle.bm_lines.specs.CallText.{list_text}
use Rattle.bm_lines.proofs.TextLemmas.{wrapped}
use Rattle.bm_lines.proofs.field_writer.write_remaining.Goals as goal

pub returns-clause-text : goal.returns-clause-text
unfolding list_text
returns-clause-text c = wrapped _ _ _ _ _ _ _ c.in_ok-push_str.ensures.bytes c.in_ok-push_remaining.ensures.text c.in_ok-push_str-2.ensures.bytes
