-- Files and blocks that are left out.
use Rattle.std.specs.Prelude.{ℕ, ◌+◌, ◌-◌, ◌^◌, Bool, Option, Some, None, if◌then◌else◌, min, nat_lt}
use Rattle.fsck_text.specs.declared.heading.Heading.{Heading}
use Rattle.fsck_text.specs.declared.heading.Layout.{Layout}
use Rattle.fsck_text.specs.declared.heading.Layout.TheVariants as layout
use Rattle.fsck_files.specs.declared.skips.Kind.{Kind}
use Rattle.fsck_files.specs.declared.skips.Kind.TheVariants as kind
use Rattle.fsck_files.specs.declared.skips.Skips.{Skips}
use Rattle.fsck_files.specs.declared.skips.LeftOut.{LeftOut}

-- more replicas are wanted than a manager accepts
abbrev pub over_replicated : ℕ → Bool
over_replicated wanted = nat_lt 16 wanted

abbrev pub over_kind : Option ℕ → Option Kind
over_kind (Some target) = if over_replicated target then Some kind.OverReplicated else None
over_kind None = None

-- the kind of a file of this layout
abbrev pub kind_by : Layout → Heading → Option Kind
kind_by layout.ErasureCoded heading = Some kind.ErasureCoded
kind_by layout.Replicated heading =
    if heading.is_open then Some kind.Open
    else (if heading.is_snapshot then Some kind.Snapshot else over_kind heading.target)

-- the first kind that applies to a file, if any
abbrev pub kind_of : Heading → Option Kind
kind_of heading = kind_by heading.layout heading

-- whether files of a kind are left out
abbrev pub skips : Skips → Kind → Bool
skips s kind.ErasureCoded = s.erasure_coded
skips s kind.Open = s.open_files
skips s kind.Snapshot = s.snapshots
skips s kind.OverReplicated = s.over_replicated

-- a counter of 64 bits that saturates
abbrev pub plus : ℕ → ℕ → ℕ
plus count more = min (count + more) (2 ^ 64 - 1)

-- the numbers of left out files, with one more
abbrev pub left_out_with : LeftOut → Kind → LeftOut
left_out_with l kind.ErasureCoded = record l { erasure_coded = plus l.erasure_coded 1 }
left_out_with l kind.Open = record l { open_files = plus l.open_files 1 }
left_out_with l kind.Snapshot = record l { snapshots = plus l.snapshots 1 }
left_out_with l kind.OverReplicated = record l { over_replicated = plus l.over_replicated 1 }
