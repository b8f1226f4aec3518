-- The losses of a cluster by incidents, and the calls that report them to the manager.
use Rattle.std.specs.Prelude.{ℕ, Bool, false, List, ◌==◌, ◌/◌, ◌%◌, ◌*◌, ◌&&◌, not, map, filter, ◌++◌}
use Rattle.std.specs.List.{list_any, range_with_len}
use Rattle.bm_base.specs.declared.call.Call.{Call}
use Rattle.bm_base.specs.declared.call.Call.TheVariants.{Apply}
use Rattle.bm_base.specs.declared.event.Event.TheVariants.{Dead, StorageFailed, Drain}
use Rattle.cluster_simulation.specs.declared.shape.Shape.{Shape}
use Rattle.cluster_simulation.specs.declared.incident.Incident.{Incident}
use Rattle.cluster_simulation.specs.declared.incident.Incident.TheVariants.{NodeDies, RackDies, NodeDrains, DiskFails}

-- the node is lost
unfoldable pub kills_node : Incident → Shape → ℕ → Bool
kills_node (NodeDies n) shape k = k == n
kills_node (RackDies r) shape k = k % shape.racks == r
kills_node _ shape k = false

-- the disk is lost
unfoldable pub kills : Incident → Shape → ℕ → Bool
kills (DiskFails t) shape s = s == t
kills incident shape s = kills_node incident shape (s / shape.storages)

-- the node begins to drain
unfoldable pub drains : Incident → ℕ → Bool
drains (NodeDrains n) k = k == n
drains _ k = false

abbrev pub any_kills_node : List Incident → Shape → ℕ → Bool
any_kills_node incidents shape k = list_any (λ i. kills_node i shape k) incidents

abbrev pub any_kills : List Incident → Shape → ℕ → Bool
any_kills incidents shape s = list_any (λ i. kills i shape s) incidents

abbrev pub any_drains : List Incident → ℕ → Bool
any_drains incidents k = list_any (λ i. drains i k) incidents

-- the disk is lost, and its node is not
abbrev pub fails_alone : List Incident → Shape → ℕ → Bool
fails_alone incidents shape s = any_kills incidents shape s && not (any_kills_node incidents shape (s / shape.storages))

-- the node begins to drain, and is not lost
abbrev pub drains_alive : List Incident → Shape → ℕ → Bool
drains_alive incidents shape k = any_drains incidents k && not (any_kills_node incidents shape k)

abbrev pub death : ℕ → Call
death n = Apply (Dead n)

abbrev pub failure : ℕ → Call
failure s = Apply (StorageFailed s)

abbrev pub drain : ℕ → Call
drain n = Apply (Drain n)

-- the numbers below n that pass a test, ascending
abbrev pub numbers_where : (ℕ → Bool) → ℕ → List ℕ
numbers_where test n = filter test (range_with_len 0 n)

-- the calls, one each: a death for each lost node, a failure for each disk lost without its node,
-- a drain for each node that drains and is not lost
abbrev pub reported : List Incident → Shape → List Call
reported incidents shape =
    map death (numbers_where (any_kills_node incidents shape) shape.nodes)
    ++ map failure (numbers_where (fails_alone incidents shape) (shape.nodes * shape.storages))
    ++ map drain (numbers_where (drains_alive incidents shape) shape.nodes)
