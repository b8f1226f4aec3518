-- The commands of a round, as rows of C.
use Rattle.std.specs.Prelude.{ℕ, List, [], map, flat_map, Option, Some, None}
use Rattle.bm_base.specs.declared.commands.Transfer.{Transfer}
use Rattle.bm_base.specs.declared.commands.Delete.{Delete}
use Rattle.bm_base.specs.declared.commands.NodeCommands.{NodeCommands}
use Rattle.bm_base.specs.declared.call.Answer.TheVariants.{Commanded}
use Rattle.bm_answers.specs.declared.line_answer.LineAnswer.{LineAnswer}
use Rattle.bm_answers.specs.declared.line_answer.LineAnswer.TheVariants.{Answered}
use Rattle.puljemrod.specs.declared.commands.CopyRow.{CopyRow}
use Rattle.puljemrod.specs.declared.commands.DeleteRow.{DeleteRow}
use Rattle.puljemrod.specs.declared.handle_state.HandleState.{HandleState}

abbrev pub copy_row : ℕ → Transfer → CopyRow
copy_row node t = record { node = node; source = t.source; target = t.target; block = t.block; generation = t.stamp.generation; len = t.stamp.len }

abbrev pub delete_row : ℕ → Delete → DeleteRow
delete_row node d = record { node = node; storage = d.storage; block = d.block }

abbrev pub copies_for : NodeCommands → List CopyRow
copies_for c = map (copy_row c.node) c.transfers

abbrev pub deletes_for : NodeCommands → List DeleteRow
deletes_for c = map (delete_row c.node) c.deletes

-- the commands of the last answer, if it is that of a round
abbrev pub nodes_by_answer : Option LineAnswer → List NodeCommands
nodes_by_answer (Some (Answered c (Commanded cs))) = cs.nodes
nodes_by_answer _ = []

abbrev pub round_by_answer : Option LineAnswer → ℕ
round_by_answer (Some (Answered c (Commanded cs))) = cs.round
round_by_answer _ = 0

abbrev pub round_in : Option HandleState → ℕ
round_in None = 0
round_in (Some k) = round_by_answer k.answer

abbrev pub nodes_in : Option HandleState → List NodeCommands
nodes_in None = []
nodes_in (Some k) = nodes_by_answer k.answer

abbrev pub copies_in : Option HandleState → List CopyRow
copies_in k = flat_map copies_for (nodes_in k)

abbrev pub deletes_in : Option HandleState → List DeleteRow
deletes_in k = flat_map deletes_for (nodes_in k)
