-- The rounds of a repair, one after another.
use Rattle.std.specs.Prelude.{◌≡◌, ℕ, Bool, false, ◌==◌, ◌&&◌, nat_le, if◌then◌else◌, List, [], ◌∷◌, ◌++◌, filter, length, map}
use Rattle.bm_base.specs.Words.{Cluster, Map, State, by_replica, count_call, has_storage, keys, len, whole_round}
use Rattle.cluster_report.specs.Catalogues.{Lists, len_of}
use Rattle.cluster_report.specs.declared.catalogue.Catalogue.{Catalogue}
use Rattle.cluster_repair.specs.declared.datanodes.DataNodes.{DataNodes}
use Rattle.cluster_repair.specs.declared.free_bytes.NodeStorages.{NodeStorages}
use Rattle.cluster_repair.specs.declared.awaited_copies.Sent.{Sent}
use Rattle.cluster_repair.specs.declared.repair.Repair.{Repair}
use Rattle.cluster_repair.specs.declared.ticks.Ticks.{Ticks}
use Rattle.cluster_repair.specs.Reports.{HaveReported}
use Rattle.cluster_repair.specs.LinkModel.{sends_until, receives_until, free_in, free_on}
use Rattle.cluster_repair.specs.SentCopies.{AreBegun, AreCounted, count_copies, deletes_in, transfers_in}
use Rattle.cluster_repair.specs.Ticks.{IsNextTick}

-- A round: its time, the manager after the reports and before the commands, the copies that
-- DataNodes began, and DataNodes after the round.
pub record RoundRecord : Type 0 where
  pub time : ℕ
  pub state : State
  pub copies : List Sent
  pub datanodes : DataNodes

-- A list of rounds has the last round first. M and d are the manager and DataNodes before the first
-- round.

-- the manager after these rounds
abbrev pub state_of : State → List RoundRecord → State
state_of M [] = M
state_of M (last ∷ before) = count_call (whole_round last.state).1

-- DataNodes after these rounds
abbrev pub datanodes_of : DataNodes → List RoundRecord → DataNodes
datanodes_of d [] = d
datanodes_of d (last ∷ before) = last.datanodes

-- the time of the last round
abbrev pub time_of : List RoundRecord → ℕ
time_of [] = 0
time_of (last ∷ before) = last.time

-- the number of copies that the last round commanded
abbrev pub commanded_of : List RoundRecord → ℕ
commanded_of [] = 0
commanded_of (last ∷ before) = count_copies (whole_round last.state).0

-- all copies that DataNodes began
abbrev pub copies_of : List RoundRecord → List Sent
copies_of [] = []
copies_of (last ∷ before) = copies_of before ++ last.copies

-- the round after these comes at this time
abbrev pub ComesAt : Ticks → List RoundRecord → ℕ → Type 0
ComesAt ticks [] t = t ≡ 0
ComesAt ticks (last ∷ before) t = IsNextTick ticks last.datanodes.on_way.sent.items last.time t

-- the number of rounds after which these pending copies have expired
abbrev pub awaited_rounds : Map by_replica ℕ → ℕ → ℕ
awaited_rounds pending pend = if len pending == 0 then 0 else pend

-- DataNodes have nothing to do
abbrev pub are_idle : DataNodes → Bool
are_idle d = (length d.on_way.sent.items == 0) && (length d.deletes.items == 0)

-- another round comes after these: a copy from before the repair may be pending, or DataNodes have
-- something to do
abbrev pub GoesOn : State → List RoundRecord → Type 0
GoesOn M [] = Unit {0}
GoesOn M (last ∷ before) = (nat_le (awaited_rounds M.holdings.pending M.limits.pend) (length (last ∷ before)) && are_idle last.datanodes) ≡ false

-- A round after others: DataNodes report what they have done, the manager commands, and DataNodes
-- begin it.
pub record IsTaken (ticks : Ticks) (M : State) (d : DataNodes) (before : List RoundRecord) (round : RoundRecord) : Type 0 where
  pub goes_on : GoesOn M before
  pub comes : ComesAt ticks before round.time
  pub mid : DataNodes
  pub reported : HaveReported (len_of M.holdings.blocks) round.time (datanodes_of d before) mid (state_of M before) round.state
  pub begun : AreBegun M.cluster round.time (transfers_in (whole_round round.state).0) mid round.datanodes
  pub copies : round.copies ≡ begun.copies
  pub deletes : round.datanodes.deletes.items ≡ deletes_in (whole_round round.state).0

-- each of these rounds was taken after those before it
abbrev pub AreTaken : Ticks → State → DataNodes → List RoundRecord → Type 0
AreTaken ticks M d [] = Unit {0}
AreTaken ticks M d (round ∷ before) = IsTaken ticks M d before round × AreTaken ticks M d before

-- a cluster, a catalogue and a number of awaited rounds are those of a state
pub record AreOf (C : Cluster) (blocks : Catalogue) (rounds : ℕ) (M : State) : Type 0 where
  pub cluster : C ≡ M.cluster
  pub lists : Lists blocks M.holdings.blocks
  pub awaited : rounds ≡ awaited_rounds M.holdings.pending M.limits.pend

-- the numbers of a node and its storages
abbrev pub numbers_of : NodeStorages → ℕ × List ℕ
numbers_of n = (n.node, n.storages.items)

-- a node with its storages
abbrev pub with_storages : Cluster → ℕ → ℕ × List ℕ
with_storages C n = (n, filter (has_storage C n) (keys C.storages))

-- DataNodes before the first round: they have nothing to do, and the free bytes of the cluster
pub record AreAtStart (C : Cluster) (d : DataNodes) : Type 0 where
  pub free : (s : ℕ) → free_on d.free s ≡ free_in C s
  pub nodes : map numbers_of d.free.nodes.items ≡ map (with_storages C) (keys C.nodes)
  pub storages : d.free.storages.items ≡ keys C.storages
  pub on_way : d.on_way.sent.items ≡ []
  pub next : d.on_way.next ≡ 0
  pub deletes : d.deletes.items ≡ []
  pub sending : (n : ℕ) → sends_until d.links n ≡ 0
  pub receiving : (n : ℕ) → receives_until d.links n ≡ 0

-- a repair has taken rounds, and its counts are those of all copies
pub record HasTaken (ticks : Ticks) (M : State) (d : DataNodes) (N : State) (r : Repair) : Type 0 where
  pub taken : List RoundRecord
  pub are : AreTaken ticks M d taken
  pub rounds : r.rounds ≡ length taken
  pub time : r.time ≡ time_of taken
  pub commanded : r.commanded ≡ commanded_of taken
  pub state : N ≡ state_of M taken
  pub datanodes : r.datanodes ≡ datanodes_of d taken
  pub counted : AreCounted (copies_of taken) r.datanodes
