use Rattle.std.proofs.Common.{ap, sym}
use Rattle.bm_lines.specs.Parser.Op.{question_of}
use Rattle.bm_lines.proofs.parser.op.question_of.Goals as goal

pub returns-in-round : goal.returns-in-round
returns-in-round c = ap question_of (sym c.in-round.is)

pub returns-in-list_replicas : goal.returns-in-list_replicas
returns-in-list_replicas c = ap question_of (sym c.in-list_replicas.is)

pub returns-in-list_corrupt : goal.returns-in-list_corrupt
returns-in-list_corrupt c = ap question_of (sym c.in-list_corrupt.is)

pub returns-in-list_missing : goal.returns-in-list_missing
returns-in-list_missing c = ap question_of (sym c.in-list_missing.is)

pub returns-in-list_excess : goal.returns-in-list_excess
returns-in-list_excess c = ap question_of (sym c.in-list_excess.is)

pub returns-in-list_storage : goal.returns-in-list_storage
returns-in-list_storage c = ap question_of (sym c.in-list_storage.is)

pub returns-in-list_places : goal.returns-in-list_places
returns-in-list_places c = ap question_of (sym c.in-list_places.is)

pub returns-in-level : goal.returns-in-level
returns-in-level c = ap question_of (sym c.in-level.is)

pub returns-in-retired : goal.returns-in-retired
returns-in-retired c = ap question_of (sym c.in-retired.is)
