-- One pass over all replicas, which are sorted by block and storage.
use Rattle.std.specs.Prelude.{◌≡◌, ◌⊎◌, ℕ, ◌+◌, ◌≤◌, ◌<◌, ◌==◌, ◌&&◌, Bool, true, false, nat_lt, if◌then◌else◌, Option, Some, None, List, [], ◌∷◌, ◌++◌, map, filter, length, sum_by, drop, slice_get, T}
use Rattle.std.specs.FinMap.{is_sorted}
use Rattle.std.specs.Option.{option_map_or}
use Rattle.bm_base.specs.declared.replica.ReplicaId.{ReplicaId}
use Rattle.bm_base.specs.declared.replica.Replica.{Replica}
use Rattle.bm_base.specs.declared.replica.Marks.{Marks}
use Rattle.bm_base.specs.declared.replica.BlockInfo.{BlockInfo}
use Rattle.bm_base.specs.Words.{State, Cluster, get, keys, entries, is_usable, replica_cmp}
use Rattle.cluster_lost.specs.Sources.{source_of, touches, left_without}
use Rattle.cluster_lost.specs.Tallies.{Value, weigh, tally_of, with_block, no_blocks, AreWithin}
use Rattle.cluster_lost.specs.Rows.{AreNew, AreAdded, AreRowsWithin}
use Rattle.cluster_lost.specs.declared.sources.Source.{Source}
use Rattle.cluster_lost.specs.declared.tally.Tally.{Tally}
use Rattle.cluster_lost.specs.declared.block_pass.BlockPass.{BlockPass}
use Rattle.cluster_lost.specs.declared.block_pass.RowTally.{RowTally}

abbrev pub Marked : Type 0
Marked = ReplicaId × Marks

abbrev pub replica_of : Marked → Replica
replica_of e = record { block = e.0.block; storage = e.0.storage; tag = e.1.tag }

-- whether this replica is the next one in excess
abbrev pub is_next : List ReplicaId → ℕ → ReplicaId → Bool
is_next excess passed id = option_map_or (λ q. (q.block == id.block) && (q.storage == id.storage)) (slice_get excess passed) false

-- those of these replicas that are in excess
abbrev pub excess_in : List Marked → List ReplicaId
excess_in es = map (λ e. e.0) (filter (λ e. e.1.excess) es)

-- these replicas are of block t and later ones, ascending
abbrev pub Ascends : ℕ → List Marked → Type 0
Ascends t [] = Unit {0}
Ascends t (e ∷ es) = (t ≤ e.0.block) × Ascends e.0.block es

-- What the tallies are of. `row_of` gives the row that is lost with a node.
-- the usable replicas of block b among these, and among all
abbrev pub sources_in : Cluster → (ℕ → Option ℕ) → List Marked → ℕ → List Source
sources_in C row_of es b = map (λ e. source_of C row_of e.0.storage) (filter (λ e. (e.0.block == b) && is_usable e.1) es)

abbrev pub sources : State → (ℕ → Option ℕ) → ℕ → List Source
sources M row_of b = sources_in M.cluster row_of (entries M.holdings.replicas) b

-- a value of a known block by these usable replicas; 0 of an unknown block
abbrev pub value_by : State → Value → ℕ → List Source → ℕ
value_by M v b us = option_map_or (λ i. weigh v i us) (get M.holdings.blocks b) 0

-- a sum over the known blocks that pass
abbrev pub sum_over : State → (ℕ → Bool) → (ℕ → ℕ) → ℕ
sum_over M p f = sum_by (λ b. if p b then f b else 0) (keys M.holdings.blocks)

abbrev pub value_before : State → (ℕ → Option ℕ) → ℕ → Value → ℕ → ℕ
value_before M row_of k v b = let us = sources M row_of b in if touches k us then value_by M v b us else 0

abbrev pub value_after : State → (ℕ → Option ℕ) → ℕ → Value → ℕ → ℕ
value_after M row_of k v b = let us = sources M row_of b in if touches k us then value_by M v b (left_without k us) else 0

-- whether row k loses all usable replicas of a block that has some
abbrev pub loses_all : ℕ → List Source → Bool
loses_all k us = touches k us && (length (left_without k us) == 0)

-- the tallies of row k, of the known blocks that pass
pub record IsRowOver (M : State) (row_of : ℕ → Option ℕ) (p : ℕ → Bool) (k : ℕ) (r : RowTally) : Type 0 where
  pub before : r.before ≡ tally_of (λ v. sum_over M p (value_before M row_of k v))
  pub after : r.after ≡ tally_of (λ v. sum_over M p (value_after M row_of k v))
  pub lost : r.lost ≡ filter (λ b. p b && loses_all k (sources M row_of b)) (keys M.holdings.blocks)

-- all tallies, of the known blocks that pass
pub record AreOver (M : State) (row_of : ℕ → Option ℕ) (p : ℕ → Bool) (total : Tally) (rows : List RowTally) : Type 0 where
  pub all : total ≡ tally_of (λ v. sum_over M p (λ b. value_by M v b (sources M row_of b)))
  pub each : (k : ℕ) (r : RowTally) → slice_get rows k ≡ Some r → IsRowOver M row_of p k r

-- The pass.
pub record IsStart (n : ℕ) (p : BlockPass) : Type 0 where
  pub all : p.all ≡ no_blocks
  pub rows : AreNew n p.rows.items
  pub block : p.block ≡ 0
  pub sources : p.sources.items ≡ []
  pub passed : p.passed ≡ 0

-- tallies of at most n blocks
pub record IsPassWithin (n : ℕ) (p : BlockPass) : Type 0 where
  pub all : AreWithin n p.all
  pub rows : AreRowsWithin n p.rows.items

abbrev pub AreAddedIf : Option BlockInfo → ℕ → List Source → List RowTally → List RowTally → Type 0
AreAddedIf None b us old new = new ≡ old
AreAddedIf (Some i) b us old new = AreAdded i b us us old new

-- the current block is added, if it is known
pub record IsCounted (info : Option BlockInfo) (old new : BlockPass) : Type 0 where
  pub all : new.all ≡ option_map_or (λ i. with_block i old.sources.items old.all) info old.all
  pub rows : AreAddedIf info old.block old.sources.items old.rows.items new.rows.items

pub record IsFinished (info : Option BlockInfo) (old new : BlockPass) : Type 0 where
  pub counted : IsCounted info old new
  pub block : new.block ≡ old.block
  pub sources : new.sources ≡ old.sources
  pub passed : new.passed ≡ old.passed

-- the current block is added, and another one begins
pub record IsNext (info : Option BlockInfo) (next : ℕ) (old new : BlockPass) : Type 0 where
  pub counted : IsCounted info old new
  pub block : new.block ≡ next
  pub sources : new.sources.items ≡ []
  pub passed : new.passed ≡ old.passed

abbrev pub IsSwitched : Option BlockInfo → ℕ → BlockPass → BlockPass → Type 0
IsSwitched info next old new = (((old.block == next) ≡ true) × (new ≡ old)) ⊎ (((old.block == next) ≡ false) × IsNext info next old new)

-- The blocks before the current one are in the tallies of n rows, and its usable replicas so far
-- are noted. The replicas `left` follow. Only known blocks have usable replicas.
pub record IsPassed (M : State) (row_of : ℕ → Option ℕ) (n : ℕ) (excess : List ReplicaId) (left : List Marked) (p : BlockPass) : Type 0 where
  pub known : (b : ℕ) → get M.holdings.blocks b ≡ None → sources M row_of b ≡ []
  pub sorted : T (is_sorted replica_cmp left)
  pub later : Ascends p.block left
  pub excess_left : drop p.passed excess ≡ excess_in left
  pub current : sources M row_of p.block ≡ p.sources.items ++ sources_in M.cluster row_of left p.block
  pub next : (b : ℕ) → p.block < b → sources M row_of b ≡ sources_in M.cluster row_of left b
  pub tallies : AreOver M row_of (λ b. nat_lt b p.block) p.all p.rows.items
  pub count : length p.rows.items ≡ n

-- At the end all known blocks are in the tallies.
pub record IsWhole (M : State) (row_of : ℕ → Option ℕ) (n : ℕ) (p : BlockPass) : Type 0 where
  pub tallies : AreOver M row_of (λ _. true) p.all p.rows.items
  pub count : length p.rows.items ≡ n
