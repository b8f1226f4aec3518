-- Registering a node keeps the rack and the draining state of each storage with a replica.
use Rattle.std.proofs.Common.{◌≡◌, ℕ, None, List, is_some, ap, ◌∙◌}
use Rattle.std.specs.Prelude.{IsSome, option_map, option_and_then}
use Rattle.bm_base.specs.declared.event.Event.TheVariants.{Register}
use Rattle.bm_base.specs.declared.storage.StorageInfo.{StorageInfo}
use Rattle.bm_base.specs.Words.{Map, get, Cluster, by_replica, rack_of, node_of, register, first_of, cluster_checks}
use Rattle.bm_base.specs.Promises.Lawful.{IsLawfulCluster}
use Rattle.bm_base.proofs.Options.{there}
use Rattle.bm_parts.specs.LevelLaws.{IsRacked}
use Rattle.bm_parts.specs.PlacedLaws.{IsPlaced}
use Rattle.bm_arena.specs.Contents.{Contents}
use Rattle.bm_arena.specs.HeldMaps.{holdings_of}
use Rattle.bm_levels.specs.SlotHoldings.{holdings_with}
use Rattle.bm_levels.specs.LevelsBy.{IsSameForHeld}
use Rattle.bm_levels.proofs.UpToDate.{register_is_same}
use Rattle.bm_parts.proofs.ReplicaRacks.{register_unrefused}

-- a known storage is on a rack
on_rack : (C : Cluster) (s : ℕ) → IsLawfulCluster C → IsSome (get C.storages s) → IsSome (rack_of C s)
unfolding rack_of node_of
on_rack C s lawful known =
    let i = there (get C.storages s) known in
    ap (λ z. is_some (option_and_then (λ n. get C.nodes n) (option_map (λ (i : StorageInfo). i.node) z))) i.1 ∙ lawful.alive s i.0 i.1

placed_on_racks : (C : Cluster) (a : Contents) (P : Map by_replica ℕ) → IsLawfulCluster C → IsPlaced C (holdings_with a P) → IsRacked C (holdings_of a)
unfolding holdings_of holdings_with
placed_on_racks C a P lawful placed q here = on_rack C q.storage lawful (placed.stored q here)

pub same_next_to : (C : Cluster) (a : Contents) (P : Map by_replica ℕ) (n rack : ℕ) (ss : List ℕ) → IsLawfulCluster C → IsPlaced C (holdings_with a P)
    → first_of (cluster_checks C (Register n rack ss)) ≡ None → IsSameForHeld C (register C n rack ss) a
same_next_to C a P n rack ss lawful placed unrefused = let new = register_unrefused C n rack ss unrefused in register_is_same C n rack ss a new.0 new.1 (placed_on_racks C a P lawful placed)
