-- The place of a replica.
use Rattle.std.specs.Prelude.{ℕ, ◌==◌, ◌&&◌, ◌||◌, Bool, false, not, Option, Some, None, is_some, is_none, option_and_then, if◌then◌else◌, codes}
use Rattle.std.specs.List.{list_any}
use Rattle.std.specs.Option.{option_map_or}
use Rattle.std.specs.Str.{bytes_eq}
use Rattle.fsck_text.specs.Cuts.{Text, is_empty, cut_at, last_cut_at, after_first, before_last, number_of}
use Rattle.fsck_text.specs.declared.place.Place.{Place}

-- ( ) , : [ ] and the space, which no name has
abbrev pub is_reserved : ℕ → Bool
is_reserved b = b == 40 || b == 41 || b == 44 || b == 58 || b == 91 || b == 93 || b == 32

abbrev pub has_reserved : Text → Bool
has_reserved text = list_any is_reserved text

abbrev pub is_plain : Text → Bool
is_plain text = not (is_empty text) && not (has_reserved text)

-- a rack begins with a slash, 47
abbrev pub is_rack : Text → Bool
is_rack text = is_plain text && is_some (after_first 47 text)

-- the name of a host or of a storage has no slash
abbrev pub is_name : Text → Bool
is_name text = is_plain text && is_none (cut_at 47 text)

-- a host, a colon, 58, and the number of a port
abbrev pub is_address : Text → Bool
is_address text = option_map_or (λ p. is_name p.0 && is_some (number_of p.1)) (cut_at 58 text) false

-- the types of storage that Hadoop has
abbrev pub is_type : Text → Bool
is_type text =
    bytes_eq text (codes "DISK") || bytes_eq text (codes "SSD") || bytes_eq text (codes "ARCHIVE")
    || bytes_eq text (codes "RAM_DISK") || bytes_eq text (codes "PROVIDED") || bytes_eq text (codes "NVDIMM")

abbrev pub racked_place : Text → Text → Option Place
racked_place rack address =
    if is_rack rack && is_address address then Some (record { rack = Some rack; address = address; storage = address }) else None

abbrev pub place_without_rack : Text → Option Place
place_without_rack address =
    if is_address address then Some (record { rack = None; address = address; storage = address }) else None

-- a node from its path: its rack, if it has one, a slash, its host and port; it has one storage,
-- with the node's name
abbrev pub node_place : Text → Option Place
node_place path = option_map_or (λ p. racked_place p.0 p.1) (last_cut_at 47 path) (place_without_rack path)

abbrev pub storage_at : Text → Text → Text → Option Place
storage_at address storage type =
    if is_address address && is_name storage && is_type type
    then Some (record { rack = None; address = address; storage = storage }) else None

-- a node and its storage: host and port, the storage's name and its type, separated by commas, 44
abbrev pub stored_by : Text → Option Place
stored_by parts = option_and_then (λ p. option_and_then (λ q. storage_at p.0 q.0 q.1) (cut_at 44 p.1)) (cut_at 44 parts)

-- a node and its storage, up to the closing bracket, 93
abbrev pub stored_place : Text → Option Place
stored_place text = option_and_then stored_by (before_last 93 text)

-- the place that a text names: a node and its storage after an opening bracket, 91, or a node alone
abbrev pub place_of : Text → Option Place
place_of text =
    option_map_or (λ p. if bytes_eq p.0 (codes "DatanodeInfoWithStorage") then stored_place p.1 else None) (cut_at 91 text) (node_place text)
