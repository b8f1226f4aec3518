-- The replicas of a block that is added.
use Rattle.std.specs.Prelude.{ℕ, ◌==◌, ◌&&◌, Bool, true, false, not, List, if◌then◌else◌, count_by, length, nat_lt}
use Rattle.fsck_text.specs.declared.mark.Mark.{Mark}
use Rattle.fsck_text.specs.declared.mark.Mark.TheVariants as mark
use Rattle.fsck_text.specs.declared.list.ListedReplica.{ListedReplica}

-- Whether a replica with a mark is corrupt. If fsck reports each known replica of its block as
-- corrupt, so is one without a mark. So is one whose mark only reports that its node is
-- decommissioned or in maintenance.
abbrev pub is_corrupt : Mark → Bool → Bool
is_corrupt mark.Corrupt block_is_corrupt = true
is_corrupt mark.Absent block_is_corrupt = block_is_corrupt
is_corrupt mark.Decommissioned block_is_corrupt = block_is_corrupt
is_corrupt mark.Decommissioning block_is_corrupt = block_is_corrupt
is_corrupt mark.EnteringMaintenance block_is_corrupt = block_is_corrupt
is_corrupt mark.InMaintenance block_is_corrupt = block_is_corrupt
is_corrupt _ block_is_corrupt = false

-- whether a node with this mark is being decommissioned, or has been
abbrev pub is_draining : Mark → Bool
is_draining mark.Decommissioned = true
is_draining mark.Decommissioning = true
is_draining _ = false

-- Whether fsck counts a replica with this mark as live. Without a mark it may, unless fsck reports
-- each known replica of the block as corrupt.
abbrev pub claims_live : Bool → Mark → Bool
claims_live block_is_corrupt mark.Absent = not block_is_corrupt
claims_live block_is_corrupt mark.Live = true
claims_live block_is_corrupt mark.StaleNode = true
claims_live block_is_corrupt mark.StaleContent = true
claims_live block_is_corrupt _ = false

abbrev pub is_maintained : Mark → Bool
is_maintained mark.EnteringMaintenance = true
is_maintained mark.InMaintenance = true
is_maintained _ = false

-- the number of replicas that are live by their marks, or may be without a mark
abbrev pub claims : Bool → List ListedReplica → ℕ
claims block_is_corrupt listed = count_by (λ one. claims_live block_is_corrupt one.mark) listed

abbrev pub is_marked : Mark → Bool
is_marked mark.Absent = false
is_marked _ = true

-- whether fsck reports each known replica of a block as corrupt, and none of the listed replicas
-- has a mark
abbrev pub are_unmarked : Bool → List ListedReplica → Bool
are_unmarked block_is_corrupt listed = block_is_corrupt && nat_lt 0 (length listed) && (count_by (λ one. is_marked one.mark) listed == 0)

-- the number of replicas on nodes in maintenance that count as good: none of a corrupt block
abbrev pub maintained : Bool → List ListedReplica → ℕ
maintained is_corrupt listed = if is_corrupt then 0 else count_by (λ one. is_maintained one.mark) listed
