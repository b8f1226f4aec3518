-- The text of a repair: a table of rounds, and a line for each fact.
use Rattle.std.specs.Prelude.{ℕ, nat_eq, Bool, true, false, if◌then◌else◌, List, [], ◌++◌, Option, Some, None, codes, count_by, decimal, length, take}
use Rattle.std.specs.List.{flat_map}
use Rattle.std.specs.Int.{div_ceil}
use Rattle.cluster_names.specs.FileTable.{FileTable, path_of}
use Rattle.cluster_names.specs.Rows.{name_or_number}
use Rattle.cluster_names.specs.declared.names.Names.{Names}
use Rattle.cluster_report.specs.Text.{count_line}
use Rattle.cluster_pages.specs.Text.{level_word}
use Rattle.cluster_repair.specs.Retirements.{retirement_of}
use Rattle.cluster_repair.specs.declared.reasons.Reason.{Reason}
use Rattle.cluster_repair.specs.declared.reasons.Reason.TheVariants.{NoSource, NoTarget, NoSpace}
use Rattle.cluster_repair.specs.declared.reasons.Unmended.{Unmended}
use Rattle.cluster_repair.specs.declared.repair.Pace.{Pace}
use Rattle.cluster_repair.specs.declared.repair.Repair.{Repair}
use Rattle.cluster_repair.specs.declared.repair.Retirement.{Retirement}
use Rattle.cluster_repair.specs.declared.rows.Row.{Row}
use Rattle.cluster_what_if.specs.Columns.{number_in, level_heads, level_numbers}
use Rattle.cluster_what_if.specs.ShownRows.{shown_rows}
use Rattle.cluster_what_if.specs.Text.{end_with}
use Rattle.cluster_what_if.specs.declared.findings.Mended.{Mended}

-- how fast DataNodes are, and how often rounds come
unfoldable pub model_line : Pace → List ℕ
model_line pace =
    codes "model: a round at most every " ++ (decimal pace.interval
    ++ (codes " s; " ++ (codes "each node sends and receives " ++ (decimal pace.bandwidth ++ codes " bytes a second\n"))))

unfoldable pub rounds_heading : List ℕ
rounds_heading = codes "   round    seconds " ++ (level_heads ++ codes "  missing commanded    on_way\n")

-- a round, its time, and the counts after it
unfoldable pub round_line : Row → List ℕ
round_line r =
    number_in 8 r.round ++ (codes " "
    ++ (number_in 10 r.seconds ++ (codes " "
    ++ (level_numbers r.levels
    ++ (number_in 9 r.levels.missing ++ (codes " "
    ++ (number_in 9 r.commanded ++ (codes " "
    ++ (number_in 9 r.on_way ++ codes "\n")))))))))

-- the table of rounds
unfoldable pub rounds_text : List Row → List ℕ
rounds_text rows = rounds_heading ++ flat_map round_line (shown_rows rows)

-- the copies on their way when the rounds were stopped, if any
abbrev pub left_line : ℕ → List ℕ
left_line left = if nat_eq left 0 then [] else count_line (codes "stopped with copies on way") left

-- the rounds, when the last copy arrived, rounded up to a second, and all copies
unfoldable pub copies_text : Repair → List ℕ
copies_text r =
    count_line (codes "rounds") r.rounds
    ++ (left_line (length r.datanodes.on_way.sent.items)
    ++ (count_line (codes "seconds") (div_ceil r.datanodes.last_arrival 1000000)
    ++ (count_line (codes "copies") r.datanodes.copies
    ++ count_line (codes "bytes copied") r.datanodes.bytes)))

-- after how many rounds and seconds a node can be switched off
unfoldable pub retired_text : Retirement → List ℕ
retired_text t = codes " retired after " ++ (decimal t.rounds ++ (codes " rounds, " ++ (decimal t.seconds ++ codes " seconds\n")))

-- after how many rounds and seconds a node can be switched off, if it can
abbrev pub retirement_text : Option Retirement → List ℕ
retirement_text None = codes " not retired\n"
retirement_text (Some t) = retired_text t

-- a drained node
unfoldable pub retirement_line : Names → List Retirement → ℕ → List ℕ
retirement_line names ts n = codes "node " ++ (name_or_number [] names.nodes n ++ retirement_text (retirement_of ts n))

-- why a block stays unrepaired
abbrev pub reason_word : Reason → List ℕ
reason_word NoSource = codes "no source"
reason_word NoTarget = codes "no target"
reason_word NoSpace = codes "no space"

abbrev pub same_reason : Reason → Reason → Bool
same_reason NoSource NoSource = true
same_reason NoTarget NoTarget = true
same_reason NoSpace NoSpace = true
same_reason _ _ = false

-- how many of these blocks stay unrepaired for a reason
unfoldable pub count_with : Reason → List Unmended → ℕ
count_with reason us = count_by (λ u. same_reason u.reason reason) us

-- how many blocks stay unrepaired, and how many of them for each reason
unfoldable pub reasons_text : List Unmended → List ℕ
reasons_text us =
    count_line (codes "unmended blocks") (length us)
    ++ (count_line (codes "no source") (count_with NoSource us)
    ++ (count_line (codes "no target") (count_with NoTarget us)
    ++ count_line (codes "no space") (count_with NoSpace us)))

-- a block that stays unrepaired
unfoldable pub unmended_line : FileTable → Unmended → List ℕ
unmended_line f u =
    codes "unmended block " ++ (decimal u.block
    ++ (codes " level " ++ (level_word u.level
    ++ (codes " " ++ (reason_word u.reason ++ end_with (path_of f u.block))))))

-- the blocks that stay unrepaired, and the first of them by name
unfoldable pub unmended_text : FileTable → ℕ → List Unmended → List ℕ
unmended_text f most us = reasons_text us ++ flat_map (unmended_line f) (take most us)

-- the whole text of a repair
unfoldable pub repair_text : Names → FileTable → ℕ → Mended → List ℕ
repair_text names f most m =
    model_line m.pace
    ++ (rounds_text m.repair.rows.rows.items
    ++ (copies_text m.repair
    ++ (flat_map (retirement_line names m.repair.retired.items) m.repair.drained.items
    ++ unmended_text f most m.unmended.items)))
