-- A model of the arrival of copies and of free bytes. Each node has a link for sending and one for
-- receiving, of the same bandwidth. A link passes one copy after another.
use Rattle.std.specs.Prelude.{ℕ, ◌+◌, ◌*◌, ◌-◌, ◌^◌, max, min, nat_eq, option_map, unwrap_or}
use Rattle.std.specs.Int.{div_ceil}
use Rattle.std.specs.HashMap.{get}
use Rattle.bm_base.specs.Maps.Map as map_of
use Rattle.bm_base.specs.Words.{Cluster}
use Rattle.bm_base.specs.declared.event.Remaining.{Remaining}
use Rattle.cluster_repair.specs.declared.links.Links.{Links}
use Rattle.cluster_repair.specs.declared.free_bytes.FreeBytes.{FreeBytes}

-- the last number of 64 bits
abbrev pub most : ℕ
most = 2 ^ 64 - 1

-- how many microseconds a number of bytes takes at a bandwidth in bytes a second, rounded up
abbrev pub micros_for : ℕ → ℕ → ℕ
micros_for bandwidth bytes = min (div_ceil (bytes * 1000000) (max bandwidth 1)) most

-- until when a node sends
abbrev pub sends_until : Links → ℕ → ℕ
sends_until l n = unwrap_or (get nat_eq l.sending n) 0

-- until when a node receives
abbrev pub receives_until : Links → ℕ → ℕ
receives_until l n = unwrap_or (get nat_eq l.receiving n) 0

-- when a node has sent the bytes of a copy that is commanded now, after those of all earlier ones
abbrev pub sent_at : Links → ℕ → ℕ → ℕ → ℕ
sent_at l source bytes now = min (max now (sends_until l source) + micros_for l.bandwidth bytes) most

-- when a node has received the bytes of a copy that is commanded now, after those of all earlier
-- ones
abbrev pub received_at : Links → ℕ → ℕ → ℕ → ℕ
received_at l target bytes now = min (max now (receives_until l target) + micros_for l.bandwidth bytes) most

-- when a copy arrives that is commanded now: its bytes are sent and received
abbrev pub arrival : Links → ℕ → ℕ → ℕ → ℕ → ℕ
arrival l source target bytes now = max (sent_at l source bytes now) (received_at l target bytes now)

-- the free bytes of a storage; 0 of one that is not known
abbrev pub free_on : FreeBytes → ℕ → ℕ
free_on f s = unwrap_or (get nat_eq f.free s) 0

-- the free bytes of a storage as its last heartbeat reported them; 0 if it is not known
abbrev pub free_in : Cluster → ℕ → ℕ
free_in C s = unwrap_or (option_map (λ i. i.remaining) (map_of.get C.storages s)) 0

-- the free bytes of a storage, as its node reports them
abbrev pub remaining_in : FreeBytes → ℕ → Remaining
remaining_in f s = record { storage = s; remaining = free_on f s }
