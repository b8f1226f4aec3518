use Rattle.bm_lines.proofs.CallOfLemmas.{view_of-text, view_of-none}
use Rattle.bm_lines.proofs.parser.call.parse_value.Goals as goal

pub returns-in-Ok : goal.returns-in-Ok
returns-in-Ok c = view_of-text _ _ c.in-Ok.ensures.ok.0 c.in-Ok.ensures.ok.1

pub returns-else-is_memory : goal.returns-else-is_memory
returns-else-is_memory c =
    view_of-none _ (c.in-Err.ensures.err (λ m. let known = c.is_memory.ensures.1 m in cc))
