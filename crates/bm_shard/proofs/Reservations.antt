-- A shard is ready for events that reserve nothing; a round needs only capacity for transfers.
use Rattle.std.proofs.Common.{◌≡◌, ℕ, List, false, true≢false, sym, ap, subst}
use Rattle.bm_base.specs.declared.event.Event.{Event}
use Rattle.bm_base.specs.declared.event.Event.TheVariants.{AddBlock, Received, FullReport}
use Rattle.std.specs.Prelude.{◌≤◌, ◌==◌, filter, length, nat_eq}
use Rattle.std.specs.Option.{unwrap_or}
use Rattle.std.specs.Map.{lookup}
use Rattle.bm_base.specs.declared.ids.Part.{Part}
use Rattle.bm_base.specs.declared.round.Chosen.{Chosen}
use Rattle.bm_base.specs.RoundParts.{own_transfers}
use Rattle.bm_shard.specs.UpToDate.{IsSameButCapacity}
use Rattle.bm_shard.specs.ShardView.{Seen, IsReadyFor, IsReadyForRound, needs_reservation}

-- an event that needs no reservation
pub ready_without : (e : Event) (S : Seen) → needs_reservation e ≡ false → IsReadyFor e S
unfolding IsReadyFor
ready_without (AddBlock b stamp repl) S none = absurd (true≢false none)
ready_without (Received s b stamp) S none = absurd (true≢false none)
ready_without (FullReport s es) S none = absurd (true≢false none)
ready_without e S none = tt

-- a shard that is ready for a round stays so, if it changes only other capacity
pub ready_still : (chosen : Chosen) (old mid : Seen) → IsSameButCapacity old mid → mid.reserved.transfers ≡ old.reserved.transfers → IsReadyForRound chosen old → IsReadyForRound chosen mid
unfolding IsReadyForRound
ready_still chosen old mid same capacities ready b =
    let part : mid.part ≡ old.part = ap (λ (S : Seen). S.part) same.rest in
    let P : Part → List (ℕ × ℕ) → Type 0 =
    λ p rs. length (filter (λ t. t.block == b) (own_transfers p.index p.shards chosen.transfers)) ≤ unwrap_or (lookup (nat_eq b) rs) 0 in
    subst (P mid.part) (sym capacities) (subst (λ p. P p old.reserved.transfers) (sym part) (ready b))
