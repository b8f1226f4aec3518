-- A line of hdfs dfsadmin -report.
use Rattle.std.specs.Prelude.{◌||◌, Bool, true, false, unwrap_or, option_and_then, Result, Ok, Err, if◌then◌else◌, codes}
use Rattle.std.specs.Option.{option_map_or}
use Rattle.std.specs.Str.{bytes_eq}
use Rattle.fsck_text.specs.Cuts.{Text, cut_at, after_prefix, before_last, word_and_rest, number_of}
use Rattle.fsck_text.specs.Wrongs.{wrong, after_ok, or_wrong}
use Rattle.fsck_text.specs.Places.{is_address, is_rack}
use Rattle.fsck_text.specs.Lines.{ends}
use Rattle.fsck_text.specs.declared.node.NodeLine.{NodeLine}
use Rattle.fsck_text.specs.declared.node.NodeLine.TheVariants as node
use Rattle.fsck_text.specs.declared.reason.Reason.TheVariants as reason
use Rattle.fsck_text.specs.declared.reason.Wrong.{Wrong}

-- the first word of a value, after a space
abbrev pub value_word : Text → Text
value_word value = (word_and_rest (unwrap_or (after_prefix (codes " ") value) value)).0

-- the host and port of a node
abbrev pub address_line : Text → Result NodeLine Wrong
address_line value =
    if is_address (value_word value) then Ok (node.Node (value_word value)) else Err (wrong reason.NotANode value)

abbrev pub rack_line : Text → Result NodeLine Wrong
rack_line value =
    option_map_or (λ rack. if is_rack rack then Ok (node.Rack rack) else Err (wrong reason.NotANode value))
    (after_prefix (codes " ") value) (Err (wrong reason.NotANode value))

-- the states of a node that does not drain; maintenance in both spellings
abbrev pub stays : Text → Bool
stays value =
    bytes_eq value (codes " Normal") || bytes_eq value (codes " Entering maintenance") || bytes_eq value (codes " Entering Maintenance")
    || bytes_eq value (codes " In maintenance") || bytes_eq value (codes " In Maintenance")

-- whether a node of this state drains
abbrev pub status_line : Text → Result NodeLine Wrong
status_line value =
    if bytes_eq value (codes " Decommission in progress") || bytes_eq value (codes " Decommissioned") then Ok (node.Drains true)
    else (if stays value then Ok (node.Drains false) else Err (wrong reason.NotANode value))

abbrev pub remaining_line : Text → Result NodeLine Wrong
remaining_line value = after_ok (λ bytes. Ok (node.Remaining bytes)) (or_wrong reason.NotANode value (number_of (value_word value)))

-- the number of live nodes, up to a closing parenthesis, 41
abbrev pub live_section : Text → Result NodeLine Wrong
live_section count = after_ok (λ n. Ok (node.Live n)) (or_wrong reason.NotANode count (option_and_then number_of (before_last 41 count)))

-- a section, if this is its heading: of the live nodes, or of those in another state
abbrev pub section_with : Text → Text → Result NodeLine Wrong
section_with name count =
    if bytes_eq name (codes "Live datanodes ") then live_section count
    else (if ends name (codes " datanodes ") then Ok node.NotLive else Ok node.Other)

abbrev pub section_of : Text → Result NodeLine Wrong
section_of key = option_map_or (λ p. section_with p.0 p.1) (cut_at 40 key) (Ok node.Other)

-- a line, by its text before the first colon and after it
abbrev pub keyed_line : Text → Text → Result NodeLine Wrong
keyed_line key value =
    if bytes_eq key (codes "Name") then address_line value
    else (if bytes_eq key (codes "Rack") then rack_line value
    else (if bytes_eq key (codes "Decommission Status ") then status_line value
    else (if bytes_eq key (codes "DFS Remaining") then remaining_line value
    else section_of key)))

-- the meaning of a line of the report
abbrev pub node_line_of : Text → Result NodeLine Wrong
node_line_of line = option_map_or (λ p. keyed_line p.0 p.1) (cut_at 58 line) (Ok node.Other)
