-- Live and drained replicas: the terms of the other laws.
use Rattle.std.specs.Prelude.{◌≡◌, ℕ, ◌↔◌, true, false, ◌||◌, Some}
use Rattle.bm_base.specs.declared.replica.Tag.TheVariants.{Good}
use Rattle.bm_base.specs.declared.replica.Marks.{Marks}
use Rattle.bm_base.specs.Words.{get, Cluster, Holdings, replica_at, has, has_repeats, live, drained, sources_of, is_draining, usable}

-- a storage is among a block's live ones exactly if its replica of the block is good and not in
-- excess, and its node does not drain
abbrev pub LiveIsGoodNotInExcessAndNotDraining : Type 0
LiveIsGoodNotInExcessAndNotDraining =
    (C : Cluster) (H : Holdings) (b s : ℕ)
    → (has (live C H b) s ≡ true) ↔ ((m : Marks) × (get H.replicas (replica_at b s) ≡ Some m) × (m.tag ≡ Good) × (m.excess ≡ false) × (is_draining C s ≡ false))

-- a storage is among a block's drained ones exactly if its replica of the block is good and not in
-- excess, and its node drains
abbrev pub DrainedIsGoodNotInExcessAndDraining : Type 0
DrainedIsGoodNotInExcessAndDraining =
    (C : Cluster) (H : Holdings) (b s : ℕ)
    → (has (drained C H b) s ≡ true) ↔ ((m : Marks) × (get H.replicas (replica_at b s) ≡ Some m) × (m.tag ≡ Good) × (m.excess ≡ false) × (is_draining C s ≡ true))

-- the usable ones are the live and the drained together
abbrev pub UsableIsLiveOrDrained : Type 0
UsableIsLiveOrDrained = (C : Cluster) (H : Holdings) (b s : ℕ) → has (usable H b) s ≡ (has (live C H b) s || has (drained C H b) s)

-- copies are made from the usable replicas, and from no others
abbrev pub SourcesAreUsable : Type 0
SourcesAreUsable = (C : Cluster) (H : Holdings) (b s : ℕ) → has (sources_of C H b) s ≡ has (usable H b) s

-- no storage occurs twice among the live ones, or among the drained ones
abbrev pub LiveIsDistinct : Type 0
LiveIsDistinct = (C : Cluster) (H : Holdings) (b : ℕ) → has_repeats (live C H b) ≡ false

abbrev pub DrainedIsDistinct : Type 0
DrainedIsDistinct = (C : Cluster) (H : Holdings) (b : ℕ) → has_repeats (drained C H b) ≡ false
