-- Events on parts.
use Rattle.std.specs.Prelude.{◌≡◌, ℕ, ◌≤◌, if◌then◌else◌, ◌==◌, List, length, Some, slice_get, slice_set}
use Rattle.bm_base.specs.declared.event.Event.{Event}
use Rattle.bm_base.specs.Words.{Cluster, Holdings, change_holdings, done}
use Rattle.bm_base.specs.Shards.{shard_of}
use Rattle.bm_parts.specs.Parts.{block_of, change_part}
use Rattle.bm_parts.specs.Whole.{whole_of, AreOwn, EachPart, done_of_all}

-- each part changes as an event changes it
abbrev pub AreChangedBy : Cluster → Event → ℕ → List Holdings → List Holdings → Type 0
AreChangedBy C e shards Ps Qs = EachPart (λ index P Q. Q ≡ change_part C P index shards e) 0 Ps Qs

-- H is the whole of these parts, one for each shard, each with its own blocks only
abbrev pub IsWholeOf : Holdings → ℕ → List Holdings → Type 0
IsWholeOf H shards Ps = (whole_of Ps ≡ H) × AreOwn shards 0 Ps × (shards ≡ length Ps)

-- if each part changes as an event changes it, so does the whole
abbrev pub whole_changes_by_event : Type 0
whole_changes_by_event =
    (C : Cluster) (e : Event) (shards : ℕ) (Ps Qs : List Holdings) → 1 ≤ shards → shards ≡ length Ps → AreOwn shards 0 Ps → AreChangedBy C e shards Ps Qs
    → IsWholeOf (change_holdings C (whole_of Ps) e) shards Qs

-- the numbers of replicas that come and go in the parts add up to those of the whole
abbrev pub done_adds_up : Type 0
done_adds_up =
    (C : Cluster) (e : Event) (shards : ℕ) (Ps Qs : List Holdings) → 1 ≤ shards → shards ≡ length Ps → AreOwn shards 0 Ps → AreChangedBy C e shards Ps Qs
    → done_of_all Ps Qs ≡ done (whole_of Ps) (whole_of Qs)

-- an event on one block changes the part of its shard, and no other
abbrev pub one_block_changes_one_part : Type 0
one_block_changes_one_part =
    (C : Cluster) (P : Holdings) (e : Event) (b index shards : ℕ) → block_of e ≡ Some b
    → change_part C P index shards e ≡ (if shard_of b shards == index then change_holdings C P e else P)

-- If an event on one block is applied to the part of the block's shard alone, it is applied to the
-- whole. The same number of replicas come and go in that part as in the whole.
abbrev pub one_shard_is_enough : Type 0
one_shard_is_enough =
    (C : Cluster) (e : Event) (b shards : ℕ) (Ps : List Holdings) (P : Holdings) → 1 ≤ shards → shards ≡ length Ps → AreOwn shards 0 Ps → block_of e ≡ Some b
    → slice_get Ps (shard_of b shards) ≡ Some P
    → let Qs = slice_set Ps (shard_of b shards) (change_holdings C P e) in
    IsWholeOf (change_holdings C (whole_of Ps) e) shards Qs × (done P (change_holdings C P e) ≡ done (whole_of Ps) (whole_of Qs))
