-- All shards of a manager, each with its index, and what contracts see of them.
use Rattle.std.specs.Prelude.{◌≡◌, ℕ, suc, ◌≤◌, List, [], ◌∷◌, map, length}
use Rattle.bm_base.specs.Machine.State.{Cluster, Holdings}
use Rattle.bm_parts.specs.Whole.{whole_of, AreOwn}
use Rattle.bm_shard.specs.ShardView.{Seen}
use Rattle.bm_shard.specs.UpToDate as shard

-- the view of all shards: what they hold together, and each of them with its index
pub record Whole : Type 0 where
  pub holdings : Holdings
  pub shards : List (ℕ × Seen)

abbrev pub parts_of : List (ℕ × Seen) → List Holdings
parts_of ss = map (λ s. s.1.holdings) ss

-- what all of them hold
abbrev pub held_by : List (ℕ × Seen) → Holdings
held_by ss = whole_of (parts_of ss)

-- each shard is paired with its index, and is the shard of this index among n
abbrev pub AreIndexed : ℕ → ℕ → List (ℕ × Seen) → Type 0
AreIndexed shards index [] = Unit {0}
AreIndexed shards index (s ∷ ss) = (s.0 ≡ index) × (s.1.part ≡ record { index = index; shards = shards }) × AreIndexed shards (suc index) ss

-- n shards, each with its own blocks alone
pub record AreShards (shards : ℕ) (ss : List (ℕ × Seen)) : Type 0 where
  pub indexed : AreIndexed shards 0 ss
  pub own : AreOwn shards 0 (parts_of ss)
  pub long : shards ≡ length ss
  pub some : 1 ≤ shards
  pub few : shards ≤ 64

-- each is up to date in this cluster
abbrev pub AreUpToDate : Cluster → List (ℕ × Seen) → Type 0
AreUpToDate C [] = Unit {0}
AreUpToDate C (s ∷ ss) = shard.IsUpToDate C s.1 × AreUpToDate C ss

-- each has taken the rounds up to this one, with this expiry of transfers
abbrev pub HaveTaken : ℕ → ℕ → List (ℕ × Seen) → Type 0
HaveTaken round pend [] = Unit {0}
HaveTaken round pend (s ∷ ss) = (s.1.round ≡ round) × (s.1.pend ≡ pend) × HaveTaken round pend ss

-- `AreUpToDate` and `HaveTaken` for all shards together: the facts that a caller passes on from
-- call to call

unfoldable pub IsUpToDate : Cluster → Whole → Type 0
IsUpToDate C F = AreUpToDate C F.shards

unfoldable pub HasTaken : ℕ → ℕ → Whole → Type 0
HasTaken round pend F = HaveTaken round pend F.shards
