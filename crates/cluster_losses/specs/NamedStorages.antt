-- The nodes and storages that the words of a command line name.
use Rattle.std.specs.Prelude.{◌≡◌, ⊤, ℕ, Bool, true, false, ◌^◌, ◌==◌, ◌&&◌, nat_lt, List, [], ◌∷◌, ◌++◌, filter, fold, length, if◌then◌else◌, Option, Some, None, option_map}
use Rattle.std.specs.Option.{option_map_or}
use Rattle.std.specs.List.{find, flat_map}
use Rattle.std.specs.Str.{all_ascii_digits, bytes_eq}
use Rattle.std.specs.Str.Parse.{digits_value, without_leading_plus}
use Rattle.bm_base.specs.Words.{Cluster, has, keys, knows_storage}
use Rattle.fsck_text.specs.Cuts.{last_cut_at}
use Rattle.cluster_names.specs.Rows.{Rows, Text, name_of, number_of}
use Rattle.cluster_names.specs.declared.names.Names.{Names}
use Rattle.cluster_losses.specs.declared.fault.Fault.{Fault}
use Rattle.cluster_losses.specs.declared.fault.Fault.TheVariants.{Memory, Unknown}
use Rattle.cluster_losses.specs.declared.loss.Kind.{Kind}
use Rattle.cluster_losses.specs.declared.loss.Kind.TheVariants as kind
use Rattle.cluster_losses.specs.declared.loss.Loss.{Loss}
use Rattle.cluster_losses.specs.declared.loss_events.Lost.{Lost}
use Rattle.cluster_losses.specs.FailureDomains.{nodes_on}

-- the number that a text writes in decimal digits, perhaps after a plus, if it has 32 bits
abbrev pub number_written : Text → Option ℕ
number_written text =
    let digits = without_leading_plus text in
    if nat_lt 0 (length digits) && (all_ascii_digits digits && nat_lt (digits_value 10 digits) (2 ^ 32)) then Some (digits_value 10 digits) else None

-- the number with this name; without names of the kind, the name is read as a number
abbrev pub number_named : Rows → Text → Option ℕ
number_named rows name = if nat_lt 0 (length rows) then number_of rows name else number_written name

-- whether a name is this host, a colon, and a port, which has no colon
abbrev pub is_on_host : Text → Text → Bool
is_on_host name host = option_map_or (λ parts. bytes_eq parts.0 host) (last_cut_at 58 name) false

-- whether a node has this name: if no node has the whole name, each on the host has it, whatever
-- its port
abbrev pub is_node_named : Names → Text → ℕ → Bool
is_node_named names name n = option_map_or (λ number. n == number) (number_named names.nodes name) (option_map_or (λ own. is_on_host own name) (name_of names.nodes n) false)

-- the alive nodes of this name, ascending
abbrev pub nodes_named : Cluster → Names → Text → List ℕ
nodes_named C names name = filter (is_node_named names name) (keys C.nodes)

-- the alive nodes of the rack of this name, ascending
abbrev pub nodes_in : Cluster → Names → Text → List ℕ
nodes_in C names name = option_map_or (nodes_on C) (number_named names.racks name) []

-- the storage of this name, if the cluster has it
abbrev pub storages_named : Cluster → Names → Text → List ℕ
storages_named C names name = option_map_or (λ s. if knows_storage C s then s ∷ [] else []) (number_named names.storages name) []

-- the nodes and storages that a word names
abbrev pub named_by : Cluster → Names → Kind → Text → List ℕ
named_by C names kind.Rack name = nodes_in C names name
named_by C names kind.Node name = nodes_named C names name
named_by C names kind.Drain name = nodes_named C names name
named_by C names kind.Storage name = storages_named C names name

-- whether a word names nodes that die, nodes that drain, or a storage
abbrev pub dies : Kind → Bool
dies kind.Rack = true
dies kind.Node = true
dies _ = false

abbrev pub drains : Kind → Bool
drains kind.Drain = true
drains _ = false

abbrev pub fails : Kind → Bool
fails kind.Storage = true
fails _ = false

-- the nodes or storages that the words of some kinds name
abbrev pub all_named : Cluster → Names → (Kind → Bool) → List Loss → List ℕ
all_named C names p ls = flat_map (λ l. if p l.kind then named_by C names l.kind l.name.now else []) ls

-- with one number added, and with several; a number that is there is not added again
abbrev pub with_one : List ℕ → ℕ → List ℕ
with_one xs x = if has xs x then xs else xs ++ x ∷ []

abbrev pub with_all : List ℕ → List ℕ → List ℕ
with_all xs ys = fold with_one xs ys

-- whether a word names nothing; and the kind of the first one that does
abbrev pub is_unknown : Cluster → Names → Loss → Bool
is_unknown C names l = length (named_by C names l.kind l.name.now) == 0

abbrev pub first_unknown : Cluster → Names → List Loss → Option Kind
first_unknown C names ls = option_map (λ l. l.kind) (find (is_unknown C names) ls)

-- out of memory, or this is the kind of a word that names nothing
abbrev pub IsFaultOf : Option Kind → Fault → Type 0
IsFaultOf unknown Memory = ⊤
IsFaultOf unknown (Unknown k) = unknown ≡ Some k
IsFaultOf unknown _ = ⊥

-- the list of this kind has these numbers too, each once; no other list changes
pub record AreAdded (named : List ℕ) (k : Kind) (old new : Lost) : Type 0 where
  pub nodes : new.nodes.items ≡ with_all old.nodes.items (if dies k then named else [])
  pub drained : new.drained.items ≡ with_all old.drained.items (if drains k then named else [])
  pub storages : new.storages.items ≡ with_all old.storages.items (if fails k then named else [])

-- Each node and storage that a word names, once, in the order of the words.
pub record AreNamed (C : Cluster) (names : Names) (ls : List Loss) (lost : Lost) : Type 0 where
  pub nodes : lost.nodes.items ≡ with_all [] (all_named C names dies ls)
  pub drained : lost.drained.items ≡ with_all [] (all_named C names drains ls)
  pub storages : lost.storages.items ≡ with_all [] (all_named C names fails ls)
