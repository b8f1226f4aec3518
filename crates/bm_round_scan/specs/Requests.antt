-- The wish of one block.
use Rattle.std.specs.Prelude.{ℕ, ◌+◌, ◌-◌, ◌==◌, if◌then◌else◌, nat_lt, List, length, Option, Some, None, option_and_then}
use Rattle.bm_base.specs.declared.replica.Level.{Level}
use Rattle.bm_base.specs.declared.replica.Level.TheVariants.{BadlyDistributed, NoUsableReplica}
use Rattle.bm_base.specs.declared.replica.BlockInfo.{BlockInfo}
use Rattle.bm_base.specs.declared.round.Wish.{Wish}
use Rattle.bm_base.specs.Words.{Cluster, Holdings, racks, is_multi_rack, level, level_of}
use Rattle.bm_base.specs.RoundParts.{wish_at}

-- the wish of a block at its own level
unfoldable pub wish_in : Cluster → Holdings → ℕ → Option Wish
wish_in C H b = option_and_then (λ urgency. wish_at C H urgency b) (level C H b)

-- the number of copies that a block at a level needs, from the numbers of wanted, live and pending
-- replicas
abbrev pub count_at : Level → ℕ → ℕ → ℕ → ℕ
count_at BadlyDistributed repl live pending = if pending == 0 then 1 else 0
count_at NoUsableReplica repl live pending = 0
count_at _ repl live pending = repl - (live + pending)

-- n copies of a block, with all that a choice needs; none if n is 0
abbrev pub wish_if : ℕ → Wish → Option Wish
wish_if n w = if nat_lt 0 n then Some w else None

-- the wish of a block, given the storages of its live replicas, of its drained ones and of all its
-- replicas, and the targets of its pending transfers
abbrev pub wish_by : Cluster → ℕ → BlockInfo → List ℕ → List ℕ → List ℕ → List ℕ → Option Wish
wish_by C b i live drained pairs pending =
    option_and_then (λ urgency. let n = count_at urgency i.repl (length live) (length pending) in
    wish_if n (record { level = urgency; block = b; stamp = i.stamp; count = n; live = live; drained = drained; pairs = pairs; pending = pending }))
    (level_of (record { live = length live; drained = length drained; wanted = i.repl; racks = length (racks C live); multi_rack = is_multi_rack C }))
