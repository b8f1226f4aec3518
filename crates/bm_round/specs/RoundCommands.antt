-- What a round chooses and commands.
use Rattle.std.specs.Prelude.{◌≡◌, ◌≤◌, ℕ, true, List, [], map, filter, flat_map, take, length, replicate, T}
use Rattle.std.specs.Ordering.{nat_cmp}
use Rattle.std.specs.FinMap.{is_sorted}
use Rattle.std.specs.List.{All}
use Rattle.bm_base.specs.declared.commands.Transfer.{Transfer}
use Rattle.bm_base.specs.declared.commands.Delete.{Delete}
use Rattle.bm_base.specs.declared.commands.NodeCommands.{NodeCommands}
use Rattle.bm_base.specs.declared.round.RoundPart.{RoundPart}
use Rattle.bm_base.specs.declared.round.Wish.{Wish}
use Rattle.bm_base.specs.Words.{keys, Cluster, RoundLimits, has_storage, node_commands, has_commands}
use Rattle.bm_base.specs.Choices.{chosen_transfers, transfers_over}

-- these are the transfers that are chosen of these parts
abbrev pub IsChosenOf : RoundLimits → Cluster → List RoundPart → List Transfer → Type 0
IsChosenOf limits C parts ts = ts ≡ chosen_transfers limits C parts

-- the transfers with those for all copies of a wish
abbrev pub with_copies : RoundLimits → Cluster → List Transfer → Wish → List Transfer
with_copies limits C chosen w = transfers_over limits C chosen (replicate w.count w)

-- no node has more than n deletes on its storages
abbrev pub HasFewDeletes : Cluster → ℕ → List Delete → Type 0
HasFewDeletes C most ds = (n : ℕ) → length (filter (λ d. has_storage C n d.storage) ds) ≤ most

-- the commands of each alive node, whether it has any or not
abbrev pub commands_by_node : Cluster → List Transfer → List Delete → List NodeCommands
commands_by_node C ts ds = map (node_commands C ts ds) (keys C.nodes)

-- the first n of these deletes on the storages of a node, and the same for each alive node
abbrev pub first_commands : ℕ → Cluster → List Delete → ℕ → NodeCommands
first_commands most C ds n = let k = node_commands C [] ds n in record k { deletes = take most k.deletes }

abbrev pub first_by_node : ℕ → Cluster → List Delete → List NodeCommands
first_by_node most C ds = map (first_commands most C ds) (keys C.nodes)

-- the deletes of all nodes, one node after another
abbrev pub deletes_of_all : List NodeCommands → List Delete
deletes_of_all ks = flat_map (λ k. k.deletes) ks

-- they are sorted by node number, and each node occurs once
abbrev pub AscendByNode : List NodeCommands → Type 0
AscendByNode ks = T (is_sorted nat_cmp (map (λ k. (k.node, k)) ks))

-- the node has a command
abbrev pub HasCommands : NodeCommands → Type 0
HasCommands k = has_commands k ≡ true

-- each transfer has its source on the node that gets the command
abbrev pub SendsItsOwn : Cluster → NodeCommands → Type 0
SendsItsOwn C k = All (λ t. has_storage C k.node t.source ≡ true) k.transfers

-- each delete is on a storage of the node that gets the command
abbrev pub DeletesItsOwn : Cluster → NodeCommands → Type 0
DeletesItsOwn C k = All (λ d. has_storage C k.node d.storage ≡ true) k.deletes
