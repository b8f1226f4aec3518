-- The parts and the choice of a round of all shards.
use Rattle.std.specs.Prelude.{◌≡◌, ℕ, List, map, Option}
use Rattle.bm_base.specs.declared.replica.ReplicaId.{ReplicaId}
use Rattle.bm_base.specs.declared.round.RoundPart.{RoundPart}
use Rattle.bm_base.specs.Words.{RoundLimits, Cluster, commands_of}
use Rattle.bm_base.specs.Choices.{chosen_transfers, chosen_deletes}
use Rattle.bm_parts.specs.BoundedWishes.{part_before}
use Rattle.bm_shard.specs.ShardView.{Seen}
use Rattle.bm_shard.specs.UpToDate.{next_part}
use Rattle.bm_shards.specs.declared.round_choice.ChosenCommands.{ChosenCommands}

-- the parts of all these shards in their next round
abbrev pub next_parts : Cluster → List (ℕ × Seen) → List RoundPart
next_parts C ss = map (λ (s : ℕ × Seen). next_part C s.1) ss

abbrev pub next_excess : Cluster → List (ℕ × Seen) → List (List ReplicaId)
next_excess C ss = map (λ (s : ℕ × Seen). (next_part C s.1).excess) ss

-- the parts with only the wishes before a bound
abbrev pub next_parts_before : Option (ℕ × ℕ) → Cluster → List (ℕ × Seen) → List RoundPart
next_parts_before bound C ss = map (λ (s : ℕ × Seen). part_before bound (next_part C s.1)) ss

-- the lists of excess of these parts are those of the shards' parts
abbrev pub HasExcess : Cluster → List (ℕ × Seen) → List RoundPart → Type 0
HasExcess C ss ps = map (λ (p : RoundPart). p.excess) ps ≡ next_excess C ss

-- the choice from all parts of the shards, with its commands
pub record IsChosen (limits : RoundLimits) (C : Cluster) (r : ℕ) (ss : List (ℕ × Seen)) (c : ChosenCommands) : Type 0 where
  pub transfers : c.chosen.transfers ≡ chosen_transfers limits C (next_parts C ss)
  pub deletes : c.chosen.deletes ≡ chosen_deletes limits C (next_parts C ss)
  pub commands : c.commands ≡ commands_of C r c.chosen.transfers c.chosen.deletes
