-- What contracts see of a shard.
use Rattle.std.specs.Prelude.{◌≡◌, ℕ, Bool, true, false, ◌≤◌, ◌==◌, List, [], ◌∷◌, filter, length, Option, Some, nat_eq}
use Rattle.std.specs.Option.{unwrap_or}
use Rattle.std.specs.Map.{lookup}
use Rattle.bm_base.specs.declared.replica.Level.{Level}
use Rattle.bm_base.specs.declared.ids.Part.{Part}
use Rattle.bm_base.specs.declared.event.Event.{Event}
use Rattle.bm_base.specs.declared.event.Event.TheVariants.{AddBlock, Received, FullReport}
use Rattle.bm_base.specs.declared.round.Chosen.{Chosen}
use Rattle.bm_base.specs.Words.{Map, by_number, Holdings, ReportedBlock, expanded}
use Rattle.bm_maps.specs.SlotLists.{IsMember}
use Rattle.bm_base.specs.RoundParts.{own_transfers}
use Rattle.bm_parts.specs.Parts.{reported_of}

-- What was looked up for a storage: the reported block of a notice, or those of a full report.
pub data LookUp : Type 0 where
  NoticeOf : (storage : ℕ) → (reported : List ReportedBlock) → LookUp
  ReportOf : (storage : ℕ) → (reported : List ReportedBlock) → LookUp

-- The reservations. Only the calls that make them and the calls that need them read them.
pub record Reserved : Type 0 where
  -- the numbers that have an entry
  pub entries : List ℕ
  -- the storages that have a list
  pub lists : List ℕ
  -- the notice or report that was looked up
  pub report : Option LookUp
  -- blocks with the number of further transfers that there is capacity for
  pub transfers : List (ℕ × ℕ)

pub record Seen : Type 0 where
  pub holdings : Holdings
  -- the index of the shard, and the number of shards
  pub part : Part
  -- the number of the last round, and the number of rounds after which a transfer expires
  pub round : ℕ
  pub pend : ℕ
  -- the stored level of each known block that has one
  pub levels : Map by_number Level
  pub reserved : Reserved

-- the reservations suffice for an event; other events take no memory
unfoldable pub IsReadyFor : Event → Seen → Type 0
IsReadyFor (AddBlock b stamp repl) S = IsMember b S.reserved.entries
IsReadyFor (Received s b stamp) S = S.reserved.report ≡ Some (NoticeOf s (record { id = b; stamp = stamp } ∷ []))
IsReadyFor (FullReport s es) S = S.reserved.report ≡ Some (ReportOf s (reported_of S.part.index S.part.shards (expanded es)))
IsReadyFor _ S = Unit {0}

-- whether an event needs a reservation, so that its preparation may be out of memory
abbrev pub needs_reservation : Event → Bool
needs_reservation (AddBlock b stamp repl) = true
needs_reservation (Received s b stamp) = true
needs_reservation (FullReport s es) = true
needs_reservation _ = false

-- the reservations suffice for the choice of a round: each block has capacity for its transfers
unfoldable pub IsReadyForRound : Chosen → Seen → Type 0
IsReadyForRound chosen S =
    (b : ℕ) → length (filter (λ t. t.block == b) (own_transfers S.part.index S.part.shards chosen.transfers)) ≤ unwrap_or (lookup (nat_eq b) S.reserved.transfers) 0
