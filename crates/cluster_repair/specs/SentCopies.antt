-- The copies that DataNodes have sent, and their counts.
use Rattle.std.specs.Prelude.{◌≡◌, ℕ, ◌≤◌, Bool, true, false, ◌+◌, ◌-◌, ◌^◌, ◌==◌, ◌&&◌, min, max, nat_eq, unwrap_or, if◌then◌else◌, List, [], ◌∷◌, ◌++◌, length, map, filter, sum_by}
use Rattle.std.specs.List.{All, Contains, flat_map, fold, list_any}
use Rattle.bm_base.specs.Words.{Cluster, node_of}
use Rattle.bm_base.specs.declared.commands.Commands.{Commands}
use Rattle.bm_base.specs.declared.commands.Delete.{Delete}
use Rattle.bm_base.specs.declared.commands.Transfer.{Transfer}
use Rattle.cluster_repair.specs.declared.links.Links.{Links}
use Rattle.cluster_repair.specs.declared.awaited_copies.Sent.{Sent}
use Rattle.cluster_repair.specs.declared.datanodes.DataNodes.{DataNodes}
use Rattle.cluster_repair.specs.Copies.{is_among}
use Rattle.cluster_repair.specs.LinkModel.{most, micros_for, sends_until, receives_until, sent_at, received_at, arrival, free_on}

-- the transfers of all nodes that a round commands
abbrev pub transfers_in : Commands → List Transfer
transfers_in k = flat_map (λ n. n.transfers) k.nodes

-- the deletes of all nodes that a round commands
abbrev pub deletes_in : Commands → List Delete
deletes_in k = flat_map (λ n. n.deletes) k.nodes

-- the number of copies that a round commands; the count saturates
abbrev pub count_copies : Commands → ℕ
count_copies k = min (length (transfers_in k)) (2 ^ 64 - 1)

-- the bytes of a copy
abbrev pub bytes_of : Sent → ℕ
bytes_of s = s.transfer.stamp.len

-- the bytes of the copies to a storage
abbrev pub bytes_to : ℕ → List Sent → ℕ
bytes_to t ss = sum_by bytes_of (filter (λ s. nat_eq s.transfer.target t) ss)

-- the latest arrival of copies; 0 of none
abbrev pub last_arrival_of : List Sent → ℕ
last_arrival_of ss = fold (λ t s. max t s.arrival) 0 ss

-- The counts of DataNodes are those of these copies. Counts saturate.
pub record AreCounted (ss : List Sent) (d : DataNodes) : Type 0 where
  pub copies : d.copies ≡ min (length ss) (2 ^ 64 - 1)
  pub bytes : d.bytes ≡ min (sum_by bytes_of ss) (2 ^ 128 - 1)
  pub last_arrival : d.last_arrival ≡ last_arrival_of ss

-- the node of a storage; each storage of a command is known
abbrev pub node_with : Cluster → ℕ → ℕ
node_with C s = unwrap_or (node_of C s) 0

-- the nodes that send and receive a copy
abbrev pub sender : Cluster → Sent → ℕ
sender C s = node_with C s.transfer.source

abbrev pub receiver : Cluster → Sent → ℕ
receiver C s = node_with C s.transfer.target

-- A copy that is commanded now arrives once the links of its two nodes have passed its bytes.
pub record IsSent (C : Cluster) (now : ℕ) (old new : Links) (s : Sent) : Type 0 where
  pub arrives : s.arrival ≡ arrival old (sender C s) (receiver C s) (bytes_of s) now
  pub sending : (n : ℕ) → sends_until new n ≡ (if nat_eq (sender C s) n then sent_at old (sender C s) (bytes_of s) now else sends_until old n)
  pub receiving : (n : ℕ) → receives_until new n ≡ (if nat_eq (receiver C s) n then received_at old (receiver C s) (bytes_of s) now else receives_until old n)
  pub bandwidth : new.bandwidth ≡ old.bandwidth

-- `IsSent` for these copies, one after another
abbrev pub AreSent : Cluster → ℕ → Links → Links → List Sent → Type 0
AreSent C now old new [] = new ≡ old
AreSent C now old new (s ∷ ss) = (mid : Links) × (IsSent C now old mid s × AreSent C now mid new ss)

-- these copies are numbered one after another; the numbers saturate
abbrev pub AreNumbered : ℕ → ℕ → List Sent → Type 0
AreNumbered first next [] = next ≡ first
AreNumbered first next (s ∷ ss) = (s.order ≡ first) × AreNumbered (min (first + 1) most) next ss

-- whether one of these transfers has the block and the target of t
abbrev pub is_one_of : List Transfer → Transfer → Bool
is_one_of ts t = list_any (λ u. (t.block == u.block) && (t.target == u.target)) ts

-- the transfers that are begun: those that are not on their way yet, in their order, each once
abbrev pub to_begin : List Transfer → List Transfer → List Transfer
to_begin on_way [] = []
to_begin on_way (t ∷ ts) = if is_one_of on_way t then to_begin on_way ts else t ∷ to_begin (on_way ++ t ∷ []) ts

abbrev pub transfers_of : List Sent → List Transfer
transfers_of ss = map (λ s. s.transfer) ss

-- DataNodes begin transfers now: they send each of these that is not on its way yet, and count it.
-- Each copy that is sent takes its bytes from the free bytes of its target.
pub record AreBegun (C : Cluster) (now : ℕ) (ts : List Transfer) (old new : DataNodes) : Type 0 where
  pub copies : List Sent
  pub on_way : new.on_way.sent.items ≡ old.on_way.sent.items ++ copies
  pub begun : transfers_of copies ≡ to_begin (transfers_of old.on_way.sent.items) ts
  pub numbers : AreNumbered old.on_way.next new.on_way.next copies
  pub commanded : All (λ s. Contains ts s.transfer) copies
  pub apart : All (λ s. is_among old.on_way.sent.items s.transfer ≡ false) copies
  pub sent : All (λ t. is_among new.on_way.sent.items t ≡ true) ts
  pub links : AreSent C now old.links new.links copies
  pub bandwidth : new.links.bandwidth ≡ old.links.bandwidth
  pub later : All (λ s. min (now + micros_for old.links.bandwidth (bytes_of s)) most ≤ s.arrival) copies
  pub free : (t : ℕ) → free_on new.free t ≡ free_on old.free t - bytes_to t copies
  pub nodes : new.free.nodes ≡ old.free.nodes
  pub storages : new.free.storages ≡ old.free.storages
  pub counted : (before : List Sent) → AreCounted before old → AreCounted (before ++ copies) new
