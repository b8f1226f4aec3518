use Rattle.bm_base.specs.declared.limits.TheConstants.{MAX_ENTRIES}
use Rattle.fsck_import.proofs.WriteLemmas.{all_first, no_others}
use Rattle.fsck_import.proofs.line_writer.split_at_report_limit.Goals as goal

pub returns-in-None-clause-first : goal.returns-in-None-clause-first
returns-in-None-clause-first c = all_first MAX_ENTRIES c.args.held.now c.in-None.ensures.cases

pub returns-in-None-clause-others : goal.returns-in-None-clause-others
returns-in-None-clause-others c = no_others MAX_ENTRIES c.args.held.now c.in-None.ensures.cases
