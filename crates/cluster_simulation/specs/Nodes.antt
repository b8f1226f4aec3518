-- The DataNodes of a made-up cluster: how they register, and the free bytes of their disks.
use Rattle.std.specs.Prelude.{ℕ, List, ◌+◌, ◌-◌, ◌*◌, ◌%◌, ◌^◌, max, map, length}
use Rattle.std.specs.Int.{div_ceil}
use Rattle.std.specs.List.{range_with_len}
use Rattle.bm_base.specs.declared.call.Call.{Call}
use Rattle.bm_base.specs.declared.call.Call.TheVariants.{Apply}
use Rattle.bm_base.specs.declared.event.Event.TheVariants.{Register, Heartbeat}
use Rattle.bm_base.specs.declared.event.Remaining.{Remaining}
use Rattle.bm_base.specs.Words.{State, blocks_on}
use Rattle.cluster_simulation.specs.declared.shape.Shape.{Shape}

-- the storage of a node at an index
abbrev pub storage_at : Shape → ℕ → ℕ → ℕ
storage_at shape n place = n * shape.storages + place

-- the storages of a node
abbrev pub storages_of : Shape → ℕ → List ℕ
storages_of shape n = map (storage_at shape n) (range_with_len 0 shape.storages)

abbrev pub registration : Shape → ℕ → Call
registration shape n = Apply (Register n (n % shape.racks) (storages_of shape n))

-- the capacity of a disk in bytes: twice its even share of the replicas, or 4 TiB if that is more
abbrev pub capacity_for : Shape → ℕ → ℕ
capacity_for shape replicas = max (div_ceil replicas (max (shape.nodes * shape.storages) 1) * 2) 32768 * 2 ^ 27

-- the free bytes of a disk, of which each replica takes 128 MiB
abbrev pub remaining_on : State → ℕ → ℕ → ℕ
remaining_on M capacity s = capacity - length (blocks_on M.holdings s) * 2 ^ 27

abbrev pub free_at : State → Shape → ℕ → ℕ → ℕ → Remaining
free_at M shape capacity n place = record { storage = storage_at shape n place; remaining = remaining_on M capacity (storage_at shape n place) }

abbrev pub heartbeat : State → Shape → ℕ → ℕ → Call
heartbeat M shape capacity n = Apply (Heartbeat n (map (free_at M shape capacity n) (range_with_len 0 shape.storages)))
