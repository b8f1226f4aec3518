-- Rounds over parts: what each part finds, what is chosen from all of them, and each part after
-- that.
use Rattle.std.specs.Prelude.{◌≡◌, ℕ, ◌+◌, ◌≤◌, List, length, map}
use Rattle.bm_base.specs.declared.commands.Transfer.{Transfer}
use Rattle.bm_base.specs.declared.commands.Delete.{Delete}
use Rattle.bm_base.specs.declared.round.RoundPart.{RoundPart}
use Rattle.bm_base.specs.Words.{RoundLimits, Cluster, Holdings, State, transfers, deletes, end_round, commands_of, whole_round}
use Rattle.bm_base.specs.Shards.{cut}
use Rattle.bm_base.specs.RoundParts.{holdings_at_choice, wishes_by_block, deletable, round_part, round_on_part}
use Rattle.bm_base.specs.Choices.{merged_wishes, merged_deletes, chosen_transfers, chosen_deletes}
use Rattle.bm_parts.specs.Whole.{whole_of, parts, AreOwn, EachPart}
use Rattle.bm_parts.specs.EventLaws.{IsWholeOf}

-- the round parts that the shards find in round r
abbrev pub round_parts : Cluster → ℕ → ℕ → Holdings → ℕ → List RoundPart
round_parts C pend r H shards = map (round_part C pend r) (parts H shards)

-- each part is left by a round that chose these transfers and deletes
abbrev pub AreLeftBy : Cluster → ℕ → ℕ → List Transfer → List Delete → ℕ → List Holdings → List Holdings → Type 0
AreLeftBy C pend r ts ds shards Ps Qs = EachPart (λ index P Q. Q ≡ round_on_part C pend r P index shards ts ds) 0 Ps Qs

-- a round's start in a part is the part of the round's start
abbrev pub start_cuts_to_start : Type 0
start_cuts_to_start =
    (C : Cluster) (pend r : ℕ) (H : Holdings) (index shards : ℕ) → cut (holdings_at_choice C pend r H) index shards ≡ holdings_at_choice C pend r (cut H index shards)

-- a round's end in a part, with its own transfers and deletes only, is the part of the round's end
abbrev pub end_cuts_to_end : Type 0
end_cuts_to_end =
    (C : Cluster) (pend r : ℕ) (H : Holdings) (ts : List Transfer) (ds : List Delete) (index shards : ℕ)
    → cut (end_round r (holdings_at_choice C pend r H) ts ds) index shards ≡ round_on_part C pend r (cut H index shards) index shards ts ds

-- the wishes of the parts, sorted, are those of the whole
abbrev pub wishes_join : Type 0
wishes_join =
    (C : Cluster) (pend r : ℕ) (H : Holdings) (shards : ℕ) → 1 ≤ shards → merged_wishes (round_parts C pend r H shards) ≡ wishes_by_block C (holdings_at_choice C pend r H)

-- the deletable replicas of the parts, sorted, are those of the whole
abbrev pub deletes_join : Type 0
deletes_join =
    (C : Cluster) (pend r : ℕ) (H : Holdings) (shards : ℕ) → 1 ≤ shards → merged_deletes (round_parts C pend r H shards) ≡ deletable C (holdings_at_choice C pend r H)

-- the transfers that are chosen from the parts are those chosen from the whole
abbrev pub parts_choose_transfers : Type 0
parts_choose_transfers =
    (limits : RoundLimits) (C : Cluster) (r : ℕ) (H : Holdings) (shards : ℕ) → 1 ≤ shards
    → chosen_transfers limits C (round_parts C limits.pend r H shards) ≡ transfers limits C (holdings_at_choice C limits.pend r H)

-- the deletes that are chosen from the parts are those chosen from the whole
abbrev pub parts_choose_deletes : Type 0
parts_choose_deletes =
    (limits : RoundLimits) (C : Cluster) (r : ℕ) (H : Holdings) (shards : ℕ) → 1 ≤ shards
    → chosen_deletes limits C (round_parts C limits.pend r H shards) ≡ deletes limits C (holdings_at_choice C limits.pend r H)

-- the whole round, by its parts: it commands what is chosen from them, and the next state has these
-- transfers and deletes
abbrev pub whole_round_is : Type 0
whole_round_is =
    (M : State) (shards : ℕ) → 1 ≤ shards
    → let ps = round_parts M.cluster M.limits.pend (M.round + 1) M.holdings shards in
    let ts = chosen_transfers M.limits M.cluster ps in
    let ds = chosen_deletes M.limits M.cluster ps in
    whole_round M
    ≡ (commands_of M.cluster (M.round + 1) ts ds, record M { round = M.round + 1; holdings = end_round (M.round + 1) (holdings_at_choice M.cluster M.limits.pend (M.round + 1) M.holdings) ts ds })

-- if a round leaves all parts as in `AreLeftBy`, their whole is what it leaves of the whole
abbrev pub whole_changes_by_round : Type 0
whole_changes_by_round =
    (C : Cluster) (pend r : ℕ) (ts : List Transfer) (ds : List Delete) (shards : ℕ) (Ps Qs : List Holdings) → 1 ≤ shards → shards ≡ length Ps → AreOwn shards 0 Ps
    → AreLeftBy C pend r ts ds shards Ps Qs → IsWholeOf (end_round r (holdings_at_choice C pend r (whole_of Ps)) ts ds) shards Qs
