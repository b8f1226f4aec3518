-- The text of an answer, without its line end.
use Rattle.std.specs.Prelude.{ℕ, Bool, true, false, List, [], ◌++◌, Option, Some, None, codes, decimal}
use Rattle.std.specs.List.{flat_map}
use Rattle.bm_base.specs.declared.refusal.Refusal.{Refusal}
use Rattle.bm_base.specs.declared.replica.ReplicaId.{ReplicaId}
use Rattle.bm_base.specs.declared.replica.Replica.{Replica}
use Rattle.bm_base.specs.declared.replica.Level.{Level}
use Rattle.bm_base.specs.declared.event.Done.{Done}
use Rattle.bm_base.specs.declared.commands.Transfer.{Transfer}
use Rattle.bm_base.specs.declared.commands.Delete.{Delete}
use Rattle.bm_base.specs.declared.commands.NodeCommands.{NodeCommands}
use Rattle.bm_base.specs.declared.commands.Commands.{Commands}
use Rattle.bm_base.specs.Words.{level_number, refusal_number}
use Rattle.bm_base.specs.declared.call.Call.{Call}
use Rattle.bm_base.specs.declared.call.Call.TheVariants as call
use Rattle.bm_base.specs.declared.call.Answer.{Answer}
use Rattle.bm_base.specs.declared.call.Answer.TheVariants as answer
use Rattle.bm_base.specs.Names.{refusal_name, tag_name}

-- Items, each after a semicolon and a space.

abbrev pub number_item : ℕ → List ℕ
number_item n = codes "; " ++ decimal n

abbrev pub replica_item : Replica → List ℕ
replica_item r = codes "; " ++ (decimal r.block ++ (codes " " ++ (decimal r.storage ++ (codes " " ++ tag_name r.tag))))

abbrev pub replica_id_item : ReplicaId → List ℕ
replica_id_item p = codes "; " ++ (decimal p.block ++ (codes " " ++ decimal p.storage))

abbrev pub level_item : Option Level → List ℕ
level_item None = codes "; none"
level_item (Some urgency) = codes "; " ++ decimal (level_number urgency)

abbrev pub yes_no_item : Bool → List ℕ
yes_no_item true = codes "; yes"
yes_no_item false = codes "; no"

abbrev pub transfer_item : ℕ → Transfer → List ℕ
transfer_item node t =
    codes "; copy " ++ (decimal node ++ (codes " " ++ (decimal t.block ++ (codes " " ++ (decimal t.stamp.generation
    ++ (codes " " ++ (decimal t.stamp.len ++ (codes " " ++ (decimal t.source ++ (codes " " ++ decimal t.target))))))))))

abbrev pub delete_item : ℕ → Delete → List ℕ
delete_item node d = codes "; delete " ++ (decimal node ++ (codes " " ++ (decimal d.storage ++ (codes " " ++ decimal d.block))))

-- the commands of a node, transfers first
abbrev pub node_items : NodeCommands → List ℕ
node_items k = flat_map (transfer_item k.node) k.transfers ++ flat_map (delete_item k.node) k.deletes

-- Lines.

abbrev pub refused_text : Refusal → List ℕ
refused_text r = codes "refused " ++ (decimal (refusal_number r) ++ (codes " " ++ refusal_name r))

abbrev pub done_text : Done → List ℕ
done_text d = codes "ok " ++ (decimal d.added ++ (codes " " ++ decimal d.removed))

abbrev pub round_text : Commands → List ℕ
round_text k = (codes "round " ++ decimal k.round) ++ flat_map node_items k.nodes

-- how the answer to a query begins
abbrev pub head_text : Call → List ℕ
head_text call.Replicas = codes "replicas"
head_text call.Corrupt = codes "corrupt"
head_text call.Excess = codes "excess"
head_text call.Missing = codes "missing"
head_text (call.BlocksOn s) = codes "storage " ++ decimal s
head_text (call.Places b) = codes "places " ++ decimal b
head_text (call.LevelOf b) = codes "level " ++ decimal b
head_text (call.Retired n) = codes "retired " ++ decimal n
head_text _ = []

-- the items of an answer to a query
abbrev pub items_text : Answer → List ℕ
items_text (answer.Replicas rs) = flat_map replica_item rs
items_text (answer.ReplicaIds ps) = flat_map replica_id_item ps
items_text (answer.Blocks bs) = flat_map number_item bs
items_text (answer.Storages ss) = flat_map number_item ss
items_text (answer.LevelIs urgency) = level_item urgency
items_text (answer.IsRetired is_so) = yes_no_item is_so
items_text _ = []

-- the text of an answer to a call; no line makes a call that a number answers
abbrev pub answer_text : Call → Answer → List ℕ
answer_text k (answer.Done d) = done_text d
answer_text k (answer.Refused r) = refused_text r
answer_text k (answer.Commanded commands) = round_text commands
answer_text k (answer.Replicas rs) = head_text k ++ flat_map replica_item rs
answer_text k (answer.ReplicaIds ps) = head_text k ++ flat_map replica_id_item ps
answer_text k (answer.Blocks bs) = head_text k ++ flat_map number_item bs
answer_text k (answer.Storages ss) = head_text k ++ flat_map number_item ss
answer_text k (answer.LevelIs urgency) = head_text k ++ level_item urgency
answer_text k (answer.IsRetired is_so) = head_text k ++ yes_no_item is_so
answer_text k (answer.Number n) = []
