-- The reports of DataNodes before a round.
use Rattle.std.specs.Prelude.{◌≡◌, ℕ, ◌+◌, min, nat_eq, nat_lt, if◌then◌else◌, List, [], ◌++◌, map, filter}
use Rattle.std.specs.List.{fold}
use Rattle.std.specs.List.Sorted.{IsPermutation, IsSortedByKey}
use Rattle.bm_base.specs.Ordered.{by_pair}
use Rattle.bm_base.specs.Words.{State, after_event, state_after}
use Rattle.bm_base.specs.declared.call.Call.{Call}
use Rattle.bm_base.specs.declared.commands.Delete.{Delete}
use Rattle.bm_base.specs.declared.event.Event.{Event}
use Rattle.bm_base.specs.declared.event.Event.TheVariants.{Heartbeat, Received, Deleted}
use Rattle.cluster_repair.specs.declared.datanodes.DataNodes.{DataNodes}
use Rattle.cluster_repair.specs.declared.free_bytes.FreeBytes.{FreeBytes}
use Rattle.cluster_repair.specs.declared.free_bytes.NodeStorages.{NodeStorages}
use Rattle.cluster_repair.specs.declared.awaited_copies.Sent.{Sent}
use Rattle.cluster_repair.specs.Copies.{has_arrived, when}
use Rattle.cluster_repair.specs.LinkModel.{most, free_on, remaining_in}

-- a copy has arrived
abbrev pub received : Sent → Event
received s = Received s.transfer.target s.transfer.block s.transfer.stamp

-- a delete is done
abbrev pub deleted : Delete → Event
deleted d = Deleted d.storage d.block

-- the heartbeat of a node, with the free bytes of its storages
abbrev pub heartbeat_of : FreeBytes → NodeStorages → Event
heartbeat_of f n = Heartbeat n.node (map (remaining_in f) n.storages.items)

-- the copies that are due, the deletes, and then the free bytes of each node
abbrev pub reports_of : List Sent → List Delete → FreeBytes → List Event
reports_of due ds f = map received due ++ (map deleted ds ++ map (heartbeat_of f) f.nodes.items)

-- a manager after events
abbrev pub after_events : State → List Event → State
after_events M es = fold after_event M es

-- some calls lead from one state to another, and this number of rounds is among them
pub record IsReached (rounds : ℕ) (M N : State) : Type 0 where
  pub calls : List Call
  pub leads : N ≡ state_after M calls
  pub later : N.round ≡ M.round + rounds

-- of these copies those that have arrived by now, by arrival and then by command
pub record AreDue (now : ℕ) (ss due : List Sent) : Type 0 where
  pub all : IsPermutation (filter (has_arrived now) ss) due
  pub sorted : IsSortedByKey when by_pair.cmp due

-- the free bytes of storage s after a delete, by the lengths of blocks
abbrev pub free_after : (ℕ → ℕ) → ℕ → ℕ → Delete → ℕ
free_after len s free d = if nat_eq d.storage s then min (free + len d.block) most else free

-- DataNodes report the copies that have arrived by now, the deletes and their free bytes, and a
-- manager accepts it.
pub record HaveReported (len : ℕ → ℕ) (now : ℕ) (old new : DataNodes) (M N : State) : Type 0 where
  pub due : List Sent
  pub are_due : AreDue now old.on_way.sent.items due
  pub state : N ≡ after_events M (reports_of due old.deletes.items new.free)
  pub reached : IsReached 0 M N
  pub free : (s : ℕ) → free_on new.free s ≡ fold (free_after len s) (free_on old.free s) old.deletes.items
  pub nodes : new.free.nodes ≡ old.free.nodes
  pub storages : new.free.storages ≡ old.free.storages
  pub deletes : new.deletes.items ≡ []
  pub on_way : new.on_way.sent.items ≡ filter (λ s. nat_lt now s.arrival) old.on_way.sent.items
  pub next : new.on_way.next ≡ old.on_way.next
  pub links : new.links ≡ old.links
