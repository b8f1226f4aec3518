-- The bytes to copy, and the free bytes for them.
use Rattle.std.specs.Prelude.{ℕ, ◌-◌, ◌^◌, min, if◌then◌else◌, length, sum_by}
use Rattle.std.specs.Option.{option_map_or}
use Rattle.bm_base.specs.Words.{State, Cluster, get, keys, live, usable, is_draining, remaining}
use Rattle.cluster_lost.specs.Sources.{bytes_to_copy}

-- `bytes_to_copy` of a block of a state; 0 if the block is not known
abbrev pub lacking_of : State → ℕ → ℕ
lacking_of M b = option_map_or (λ i. bytes_to_copy i (length (live M.cluster M.holdings b)) (length (usable M.holdings b))) (get M.holdings.blocks b) 0

-- the sum over all known blocks
unfoldable pub lacking_bytes : State → ℕ
lacking_bytes M = sum_by (lacking_of M) (keys M.holdings.blocks)

-- a number of 128 bits; the greatest one if it is more
abbrev pub in_128_bits : ℕ → ℕ
in_128_bits n = min n (2 ^ 128 - 1)

-- the free bytes of a storage; 0 if its node drains
abbrev pub free_on : Cluster → ℕ → ℕ
free_on C s = if is_draining C s then 0 else remaining C s

-- the sum over all storages
abbrev pub free_for_copies : Cluster → ℕ
free_for_copies C = sum_by (free_on C) (keys C.storages)
