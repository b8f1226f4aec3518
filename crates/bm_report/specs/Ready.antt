-- What a report keeps from its look-up to its end, and the conditions for applying it.
use Rattle.std.specs.Prelude.{◌≡◌, ℕ, ◌+◌, ◌≤◌, List, [], ◌∷◌, map, length, IsTrue, IsSome, IsSomeAnd, Some, None}
use Rattle.std.specs.Option.{unwrap_or}
use Rattle.bm_base.specs.declared.replica.ReplicaId.{ReplicaId}
use Rattle.bm_base.specs.declared.replica.Marks.{Marks}
use Rattle.bm_base.specs.Words.{Map, get, Cluster, Holdings, by_replica, replica_at, is_good, ReportedBlock, is_named, entered_marks}
use Rattle.bm_arena.specs.Contents.{Contents, slot_of, marks_at, list_of, HasHead, HasCapacity}
use Rattle.bm_report.specs.declared.types.ReportedSlot.{ReportedSlot}
use Rattle.bm_report.specs.DuringReport.{AreAtSlots, HaveCapacity, IsOncePerNode, FitsCounters, reported_of}
use Rattle.bm_report.specs.declared.report_counts.ReportCounts.{ReportCounts}
use Rattle.bm_arena.specs.HeldMaps.{replicas_of}

-- a report as it was looked up
pub record LookedUpReport : Type 0 where
  -- the numbers that it names, in their order, with their slots
  pub named : List ReportedSlot
  -- the slots whose blocks changed
  pub changed : List ℕ
  -- how many changed slots were listed before the sweep
  pub came : ℕ
  -- how many slots can be listed in all without allocation
  pub capacity : ℕ

-- the reported blocks of its numbers
abbrev pub reported_blocks : LookedUpReport → List ReportedBlock
reported_blocks r = map reported_of r.named

-- The numbers were looked up in this arena, for storage s: the slots are theirs, each block has
-- capacity for a replica on s, and s has a head. A notice needs no more.
pub record IsLookedUp (r : LookedUpReport) (a : Contents) (s : ℕ) : Type 0 where
  pub here : AreAtSlots a r.named
  pub capacity : HaveCapacity a s r.named
  pub head : HasHead a s

-- For a full report, there is also capacity to list all slots that may change.
pub record IsReady (r : LookedUpReport) (a : Contents) (s : ℕ) : Type 0 where
  pub looked_up : IsLookedUp r a s
  pub space : length r.changed + length r.named + length (list_of a s) ≤ r.capacity

-- the slot is that of a reported number
abbrev pub IsReportedAt : Contents → List ReportedBlock → ℕ → Type 0
IsReportedAt a ts slot = (b : ℕ) × IsTrue (is_named ts b) × (slot_of a b ≡ Some slot)

-- a number has an entry, with a replica on s or capacity for one
abbrev pub HasSlotFor : Contents → ℕ → ℕ → Type 0
HasSlotFor a s b = IsSomeAnd (slot_of a b) (λ slot. marks_at a slot s ≡ None → HasCapacity a slot)

-- each reported number has an entry, and s has a head
pub record HasSlotsFor (a : Contents) (s : ℕ) (ts : List ReportedBlock) : Type 0 where
  pub places : (b : ℕ) → IsTrue (is_named ts b) → HasSlotFor a s b
  pub head : HasHead a s

-- a number has a replica on s, and so does each reported number
abbrev pub HasReplica : Contents → ℕ → ℕ → Type 0
HasReplica a s b = IsSome (get (replicas_of a) (replica_at b s))

abbrev pub HaveReplicas : Contents → ℕ → List ReportedBlock → Type 0
HaveReplicas a s ts = (b : ℕ) → IsTrue (is_named ts b) → HasReplica a s b

-- each reported replica is on s already, with exactly the marks with which it is entered
abbrev pub AreAlreadyThere : Holdings → ℕ → List ReportedBlock → Type 0
AreAlreadyThere H s [] = Unit {0}
AreAlreadyThere H s (t ∷ ts) = (get H.replicas (replica_at t.id s) ≡ Some (entered_marks H (replica_at t.id s) t.stamp)) × AreAlreadyThere H s ts

-- only good replicas are in excess
abbrev pub HasGoodExcess : Map by_replica Marks → Type 0
HasGoodExcess K = (p : ReplicaId) (m : Marks) → get K p ≡ Some m → IsTrue m.excess → IsTrue (is_good m.tag)

-- a reported number, with the slot that it has in this arena
abbrev pub named_in : Contents → ReportedBlock → ReportedSlot
named_in a t = record { id = t.id; slot = unwrap_or (slot_of a t.id) 0; stamp = t.stamp }

abbrev pub named_of : Contents → List ReportedBlock → List ReportedSlot
named_of a ts = map (named_in a) ts

-- numbers can be entered one after another: each has its entry, and the counts do not overflow
pub record CanBeAdded (C : Cluster) (s : ℕ) (ts : List ReportedBlock) (a : Contents) (t : ReportCounts) : Type 0 where
  pub here : AreAtSlots a (named_of a ts)
  pub capacity : HaveCapacity a s (named_of a ts)
  pub head : HasHead a s
  pub once : IsOncePerNode C (replicas_of a)
  pub small : FitsCounters t (length ts)
