-- The state after a loss.
use Rattle.std.specs.Prelude.{Bool, true, false, Option, Some, None}
use Rattle.bm_base.specs.declared.replica.Level.{Level}
use Rattle.bm_base.specs.declared.replica.Level.TheVariants.{Highest, VeryUnderReplicated, UnderReplicated, BadlyDistributed, NoUsableReplica}

-- a level of a cluster of several racks, in a cluster that perhaps has one rack only
abbrev pub seen : Bool → Option Level → Option Level
seen true found = found
seen false (Some BadlyDistributed) = None
seen false (Some Highest) = Some Highest
seen false (Some VeryUnderReplicated) = Some VeryUnderReplicated
seen false (Some UnderReplicated) = Some UnderReplicated
seen false (Some NoUsableReplica) = Some NoUsableReplica
seen false None = None
