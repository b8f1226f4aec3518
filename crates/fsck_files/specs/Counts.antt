-- The counts of what was read, and the numbers of the summary.
use Rattle.std.specs.Prelude.{ℕ, ◌==◌, ◌&&◌, ◌||◌, nat_lt, Bool, true, false, if◌then◌else◌}
use Rattle.fsck_text.specs.declared.summary.Count.{Count}
use Rattle.fsck_text.specs.declared.summary.Count.TheVariants as count
use Rattle.fsck_files.specs.Skips.{plus}
use Rattle.fsck_files.specs.declared.counts.Counts.{Counts}
use Rattle.fsck_files.specs.declared.counts.Summed.{Summed}

abbrev pub no_counts : Counts
no_counts = record { blocks = 0; missing = 0; corrupt = 0; groups = 0; missing_groups = 0; corrupt_groups = 0 }

abbrev pub none_summed : Summed
none_summed = record { blocks = false; corrupt = false }

-- the counts with the blocks of one more file, which are groups if it is erasure coded
abbrev pub with_blocks : Counts → Bool → ℕ → Counts
with_blocks c is_coded blocks =
    if is_coded then record c { groups = plus c.groups blocks } else record c { blocks = plus c.blocks blocks }

-- the counts with one more block of which no replica is known
abbrev pub with_missing : Counts → Bool → Counts
with_missing c is_coded =
    if is_coded then record c { missing_groups = plus c.missing_groups 1 } else record c { missing = plus c.missing 1 }

-- the counts with one more block of which each known replica is corrupt
abbrev pub with_corrupt : Counts → Bool → Counts
with_corrupt c is_coded =
    if is_coded then record c { corrupt_groups = plus c.corrupt_groups 1 } else record c { corrupt = plus c.corrupt 1 }

-- a block or a group was read, or a heading announces one
abbrev pub has_blocks : Counts → Bool
has_blocks c = nat_lt 0 c.blocks || nat_lt 0 c.groups

-- fsck reports all files as healthy if no block is missing or corrupt
abbrev pub is_healthy : Counts → Bool
is_healthy c = c.missing == 0 && c.corrupt == 0 && c.missing_groups == 0 && c.corrupt_groups == 0

-- the number of blocks or groups read that a line of the summary counts
abbrev pub number_of : Counts → Count → ℕ
number_of c count.Blocks = c.blocks
number_of c count.Missing = c.missing
number_of c count.Corrupt = c.corrupt
number_of c count.Groups = c.groups
number_of c count.MissingGroups = c.missing_groups
number_of c count.CorruptGroups = c.corrupt_groups

-- notes that a number of the summary was read; only the two that each summary has are kept
abbrev pub with_sum : Summed → Count → Summed
with_sum s count.Blocks = record s { blocks = true }
with_sum s count.Corrupt = record s { corrupt = true }
with_sum s _ = s
