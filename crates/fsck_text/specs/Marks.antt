-- The mark of a replica, after its place.
use Rattle.std.specs.Prelude.{◌&&◌, ◌||◌, Bool, Option, Some, None, is_some, option_and_then, if◌then◌else◌, codes}
use Rattle.std.specs.Str.{bytes_eq}
use Rattle.fsck_text.specs.Cuts.{Text, is_empty, cut_at, after_prefix, before_last}
use Rattle.fsck_text.specs.declared.mark.Mark.{Mark}
use Rattle.fsck_text.specs.declared.mark.Mark.TheVariants as mark

-- Hadoop's names for the marks
abbrev pub mark_named : Text → Option Mark
mark_named name =
    if bytes_eq name (codes "LIVE") then Some mark.Live
    else (if bytes_eq name (codes "CORRUPT") then Some mark.Corrupt
    else (if bytes_eq name (codes "EXCESS") then Some mark.Excess
    else (if bytes_eq name (codes "DECOMMISSIONED") then Some mark.Decommissioned
    else (if bytes_eq name (codes "DECOMMISSIONING") then Some mark.Decommissioning
    else (if bytes_eq name (codes "ENTERING MAINTENANCE") then Some mark.EnteringMaintenance
    else (if bytes_eq name (codes "IN MAINTENANCE") then Some mark.InMaintenance
    else (if bytes_eq name (codes "STALE_NODE") then Some mark.StaleNode
    else (if bytes_eq name (codes "STALE_BLOCK_CONTENT") then Some mark.StaleContent
    else None))))))))

-- an upgrade domain, up to its closing parenthesis, 41
abbrev pub is_domain : Text → Bool
is_domain text = is_some (after_prefix (codes "(ud=") text) && is_some (before_last 41 text)

abbrev pub mark_with : Text → Text → Option Mark
mark_with name rest =
    if is_some (after_prefix (codes "ud=") name) then (if is_empty rest then Some mark.Absent else None)
    else (if is_empty rest || is_domain rest then mark_named name else None)

-- the mark, from the text after its opening parenthesis; an upgrade domain may come after it or in
-- its place
abbrev pub mark_of : Text → Option Mark
mark_of text = option_and_then (λ p. mark_with p.0 p.1) (cut_at 41 text)
