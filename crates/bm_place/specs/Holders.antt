-- Storages with a live replica, looked up.
use Rattle.std.specs.Prelude.{ℕ, List, count_by}
use Rattle.bm_base.specs.Words.{Cluster, rack_of, remaining}
use Rattle.bm_place.specs.declared.holders.Holder.{Holder}
use Rattle.bm_place.specs.ReplicaSpread.{is_rack}

-- a storage, looked up
abbrev pub holder_at : Cluster → ℕ → Holder
holder_at C s = record { storage = s; rack = rack_of C s; remaining = remaining C s }

-- the number of these on rack r
abbrev pub count_among : List Holder → ℕ → ℕ
count_among hs r = count_by (λ h. is_rack r h.rack) hs
