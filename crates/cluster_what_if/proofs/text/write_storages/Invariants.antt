use Rattle.std.proofs.Common.{◌≡◌, ◌++◌, string_bytes, take}
use Rattle.std.specs.List.{flat_map}
use Rattle.cluster_what_if.specs.Text.{storage_line}
use Rattle.cluster_what_if.proofs.text.write_storages.Given as goal

abbrev pub invariant-loop-storage : goal.invariant-loop-storage
invariant-loop-storage l = string_bytes l.text ≡ string_bytes l.fn.text ++ flat_map (storage_line l.names) (take l.storage-index l.storages)
