-- The storages of a node that registers.
use Rattle.std.specs.Prelude.{ℕ, List, map}
use Rattle.bm_base.specs.declared.storage.StorageInfo.{StorageInfo}

-- each of these storages, on node n, with 0 remaining bytes
abbrev pub new_storages : ℕ → List ℕ → List (ℕ × StorageInfo)
new_storages n ss = map (λ s. (s, record { node = n; remaining = 0 })) ss
