use Rattle.std.proofs.Common.{◌≡◌, drop}
use Rattle.std.specs.Prelude.{nat_eq}
use Rattle.std.specs.List.{find}
use Rattle.cluster_repair.proofs.repair.retirement_of.Given as goal

-- the first retirement of the node is among those to come
abbrev pub invariant-loop-retirement : goal.invariant-loop-retirement
invariant-loop-retirement l = find (λ t. nat_eq t.node l.node) l.retired ≡ find (λ t. nat_eq t.node l.node) (drop l.retirement-index l.retired)
