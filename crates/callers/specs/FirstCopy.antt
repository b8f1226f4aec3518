-- One more copy of a block.
use Rattle.std.specs.Prelude.{◌≡◌, ◌≤◌, ℕ, true, false, List, [], Option, Some, IfSome, option_map, option_and_then}
use Rattle.bm_base.specs.declared.commands.Transfer.{Transfer}
use Rattle.bm_base.specs.declared.replica.Level.{Level}
use Rattle.bm_base.specs.declared.replica.Stamp.{Stamp}
use Rattle.bm_base.specs.Words.{Cluster, remaining, has, node_of, has_storage, least_source, least_target}

-- the first copy for a block with these live replicas, at this level: least source, least target
abbrev pub first_copy : Cluster → List ℕ → Level → ℕ → Stamp → Option Transfer
first_copy C live urgency block stamp =
    option_and_then (λ source. option_map (λ target. record { block = block; stamp = stamp; source = source; target = target })
    (least_target C [] (record { urgency = urgency; holders = live; excluded = live; len = stamp.len })))
    (least_source C [] urgency live)

-- a copy fits on its target
abbrev pub FitsOnTarget : Cluster → ℕ → Option Transfer → Type 0
FitsOnTarget C len copy = IfSome copy (λ t. len ≤ remaining C t.target)

-- a copy goes to no node of one of these storages
abbrev pub GoesToAnotherNode : Cluster → List ℕ → Option Transfer → Type 0
GoesToAnotherNode C live copy =
    IfSome copy (λ t. (holder node : ℕ) → has live holder ≡ true → node_of C holder ≡ Some node → has_storage C node t.target ≡ false)
