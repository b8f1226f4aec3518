-- The list of a question, as rows of C.
use Rattle.std.specs.Prelude.{ℕ, ◌==◌, List, [], map, filter, Option, Some, None}
use Rattle.bm_base.specs.declared.replica.Tag.{Tag}
use Rattle.bm_base.specs.declared.replica.Tag.TheVariants.{Good, Stale, Bad, Stray}
use Rattle.bm_base.specs.declared.replica.Replica.{Replica}
use Rattle.bm_base.specs.declared.replica.ReplicaId.{ReplicaId}
use Rattle.bm_base.specs.declared.call.Answer.TheVariants as answer
use Rattle.bm_answers.specs.declared.line_answer.LineAnswer.{LineAnswer}
use Rattle.bm_answers.specs.declared.line_answer.LineAnswer.TheVariants.{Answered}
use Rattle.puljemrod.specs.declared.lists.ReplicaRow.{ReplicaRow}
use Rattle.puljemrod.specs.declared.lists.PairRow.{PairRow}
use Rattle.puljemrod.specs.declared.handle_state.HandleState.{HandleState}

abbrev pub tag_number : Tag → ℕ
tag_number Good = 0
tag_number Stale = 1
tag_number Bad = 2
tag_number Stray = 3

-- the rows of these lists share no value, so the first argument is the unit

abbrev pub replica_row : Unit {0} → Replica → ReplicaRow
replica_row _ r = record { block = r.block; storage = r.storage; tag = tag_number r.tag }

abbrev pub pair_row : Unit {0} → ReplicaId → PairRow
pair_row _ r = record { block = r.block; storage = r.storage }

abbrev pub number_row : Unit {0} → ℕ → ℕ
number_row _ n = n

-- the storages of the good replicas among rows
abbrev pub good_storages : List ReplicaRow → List ℕ
good_storages rows = map (λ r. r.storage) (filter (λ r. r.tag == 0) rows)

-- the list of the last answer, if it has items of this kind

abbrev pub replicas_by_answer : Option LineAnswer → List ReplicaRow
replicas_by_answer (Some (Answered c (answer.Replicas rs))) = map (replica_row tt) rs
replicas_by_answer _ = []

abbrev pub pairs_by_answer : Option LineAnswer → List PairRow
pairs_by_answer (Some (Answered c (answer.ReplicaIds rs))) = map (pair_row tt) rs
pairs_by_answer _ = []

abbrev pub numbers_by_answer : Option LineAnswer → List ℕ
numbers_by_answer (Some (Answered c (answer.Blocks bs))) = map (number_row tt) bs
numbers_by_answer (Some (Answered c (answer.Storages ss))) = map (number_row tt) ss
numbers_by_answer _ = []

abbrev pub replicas_in : Option HandleState → List ReplicaRow
replicas_in None = []
replicas_in (Some k) = replicas_by_answer k.answer

abbrev pub pairs_in : Option HandleState → List PairRow
pairs_in None = []
pairs_in (Some k) = pairs_by_answer k.answer

abbrev pub numbers_in : Option HandleState → List ℕ
numbers_in None = []
numbers_in (Some k) = numbers_by_answer k.answer
