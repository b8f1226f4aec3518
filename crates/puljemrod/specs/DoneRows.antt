-- The effect of an event, as a row of C.
use Rattle.std.specs.Prelude.{◌^◌, ◌/◌, ◌%◌, Option, Some}
use Rattle.bm_base.specs.declared.event.Done.{Done}
use Rattle.bm_base.specs.declared.call.Answer.TheVariants as answer
use Rattle.bm_answers.specs.declared.line_answer.LineAnswer.{LineAnswer}
use Rattle.bm_answers.specs.declared.line_answer.LineAnswer.TheVariants.{Answered}
use Rattle.puljemrod.specs.declared.event_answer.DoneRow.{DoneRow}

abbrev pub done_row : Done → DoneRow
done_row d = record { added = d.added % 2 ^ 64; added_high = d.added / 2 ^ 64; removed = d.removed % 2 ^ 64; removed_high = d.removed / 2 ^ 64 }

-- zeros if the last answer is not that of an event
abbrev pub done_by_answer : Option LineAnswer → DoneRow
done_by_answer (Some (Answered c (answer.Done d))) = done_row d
done_by_answer _ = record { added = 0; added_high = 0; removed = 0; removed_high = 0 }
