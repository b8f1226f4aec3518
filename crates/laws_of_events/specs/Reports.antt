-- The state after a full report, and after a received notice.
use Rattle.std.specs.Prelude.{◌≡◌, ◌≢◌, ℕ, ◌+◌, ◌≤◌, false, IsTrue, IsSome, List, [], ◌∷◌, ◌++◌, map, length, Some, None}
use Rattle.bm_base.specs.declared.replica.ReplicaId.{ReplicaId}
use Rattle.bm_base.specs.declared.replica.Tag.TheVariants.{Good, Stale, Bad, Stray}
use Rattle.bm_base.specs.declared.replica.Marks.{Marks}
use Rattle.bm_base.specs.declared.replica.Stamp.{Stamp}
use Rattle.bm_base.specs.declared.replica.BlockInfo.{BlockInfo}
use Rattle.bm_base.specs.declared.storage.StorageInfo.{StorageInfo}
use Rattle.bm_base.specs.declared.event.Entry.{Entry}
use Rattle.bm_base.specs.declared.event.Event.{Event}
use Rattle.bm_base.specs.declared.event.Event.TheVariants.{Received, FullReport}
use Rattle.bm_base.specs.Words.{get, contains_key, has, distinct, blocks_on, ReportedBlock, expanded, Cluster, Holdings, State, replica_at, done_by, after_event}

-- the holdings after an event
abbrev pub held_after : State → Event → Holdings
held_after M e = (after_event M e).holdings

-- the block numbers that a report's entries name
abbrev pub numbers_of : List Entry → List ℕ
numbers_of es = map (λ (t : ReportedBlock). t.id) (expanded es)

abbrev pub IsBadIn : Holdings → ReplicaId → Type 0
IsBadIn H p = (m : Marks) × (get H.replicas p ≡ Some m) × (m.tag ≡ Bad)

abbrev pub IsExcessIn : Holdings → ReplicaId → Type 0
IsExcessIn H p = (m : Marks) × (get H.replicas p ≡ Some m) × IsTrue m.excess

-- The marks of a replica that is reported or received with this stamp. H is what was held before.
pub record HasReportedMarks (H : Holdings) (p : ReplicaId) (stamp : Stamp) (m : Marks) : Type 0 where
  pub stray : get H.blocks p.block ≡ None → m.tag ≡ Stray
  pub bad : (i : BlockInfo) → get H.blocks p.block ≡ Some i → IsBadIn H p → m.tag ≡ Bad
  pub good : (i : BlockInfo) → get H.blocks p.block ≡ Some i → (IsBadIn H p → ⊥) → stamp ≡ i.stamp → m.tag ≡ Good
  pub stale : (i : BlockInfo) → get H.blocks p.block ≡ Some i → (IsBadIn H p → ⊥) → stamp ≢ i.stamp → m.tag ≡ Stale
  -- It stays in excess if it is good. Its delete is not ordered, so a round may command it again.
  pub excess : m.tag ≡ Good → IsExcessIn H p → IsTrue m.excess
  pub no_new_excess : IsTrue m.excess → (m.tag ≡ Good) × IsExcessIn H p
  pub not_ordered : m.ordered ≡ false

-- after a full report a storage has exactly the replicas that the report names
abbrev pub full_report_is_exact : Type 0
full_report_is_exact = (M : State) (s : ℕ) (es : List Entry) (b : ℕ) → contains_key (held_after M (FullReport s es)).replicas (replica_at b s) ≡ has (numbers_of es) b

-- a query for the storage's blocks answers each of these numbers once, ascending
abbrev pub report_is_what_is_asked : Type 0
report_is_what_is_asked = (M : State) (s : ℕ) (es : List Entry) → blocks_on (held_after M (FullReport s es)) s ≡ distinct (numbers_of es)

-- the last entry that names a block decides the replica's marks, by the entry's stamp
abbrev pub last_entry_decides : Type 0
last_entry_decides =
    (M : State) (s : ℕ) (front : List Entry) (e : Entry) (behind : List Entry) (b : ℕ) → e.from ≤ b → b ≤ e.to → has (numbers_of behind) b ≡ false
    → (m : Marks) × (get (held_after M (FullReport s (front ++ (e ∷ behind)))).replicas (replica_at b s) ≡ Some m) × HasReportedMarks M.holdings (replica_at b s) e.stamp m

-- the same report again changes no holdings, and answers that no replica came or went
abbrev pub second_report_changes_nothing : Type 0
second_report_changes_nothing =
    (M : State) (s : ℕ) (es : List Entry)
    → (held_after (after_event M (FullReport s es)) (FullReport s es) ≡ held_after M (FullReport s es))
    × (done_by (after_event M (FullReport s es)) (FullReport s es) ≡ record { added = 0; removed = 0 })

-- the state after a received notice for each of these replicas on storage s, one after another, if
-- none is refused
abbrev pub after_each_received : State → ℕ → List ReportedBlock → State
after_each_received M s [] = M
after_each_received M s (t ∷ ts) = after_each_received (after_event M (Received s t.id t.stamp)) s ts

-- A full report of some entries, followed by a received notice for each number of the others,
-- leaves the same state as one full report of all entries. Only the number of calls differs, since
-- each notice is a call. The condition is that the storage holds no replica that the other entries
-- name. A number may be named twice: the last stamp counts.
abbrev pub report_in_parts : Type 0
report_in_parts =
    (M : State) (s : ℕ) (front behind : List Entry) → ((b : ℕ) → IsTrue (has (numbers_of behind) b) → get M.holdings.replicas (replica_at b s) ≡ None)
    → after_each_received (after_event M (FullReport s front)) s (expanded behind) ≡ record (after_event M (FullReport s (front ++ behind))) { calls = M.calls + 1 + length (expanded behind) }

-- two different storages that are not of one node
abbrev pub AreApart : Cluster → ℕ → ℕ → Type 0
AreApart C s t = (t ≢ s) × ((i j : StorageInfo) → get C.storages s ≡ Some i → get C.storages t ≡ Some j → i.node ≢ j.node)

-- a report keeps the replicas on the storages of other nodes, marks included, and so does a
-- received notice
abbrev pub report_leaves_other_nodes : Type 0
report_leaves_other_nodes =
    (M : State) (s : ℕ) (es : List Entry) (p : ReplicaId) → AreApart M.cluster s p.storage → get (held_after M (FullReport s es)).replicas p ≡ get M.holdings.replicas p

abbrev pub received_leaves_other_nodes : Type 0
received_leaves_other_nodes =
    (M : State) (s b : ℕ) (stamp : Stamp) (p : ReplicaId) → AreApart M.cluster s p.storage → get (held_after M (Received s b stamp)).replicas p ≡ get M.holdings.replicas p

-- a received replica exists, with marks by its stamp
abbrev pub received_is_there : Type 0
received_is_there =
    (M : State) (s b : ℕ) (stamp : Stamp)
    → (m : Marks) × (get (held_after M (Received s b stamp)).replicas (replica_at b s) ≡ Some m) × HasReportedMarks M.holdings (replica_at b s) stamp m

-- a bad replica that exists after the event is still bad
abbrev pub LeavesBadBad : State → Event → Type 0
LeavesBadBad M e = (p : ReplicaId) → IsBadIn M.holdings p → IsSome (get (held_after M e).replicas p) → IsBadIn (held_after M e) p

abbrev pub report_leaves_bad_bad : State → Type 0
report_leaves_bad_bad M = (s : ℕ) (es : List Entry) → LeavesBadBad M (FullReport s es)

abbrev pub received_leaves_bad_bad : State → Type 0
received_leaves_bad_bad M = (s b : ℕ) (stamp : Stamp) → LeavesBadBad M (Received s b stamp)
