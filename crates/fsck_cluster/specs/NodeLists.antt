-- The DataNodes, from the report on them.
use Rattle.std.specs.Prelude.{◌≡◌, ⊤, ℕ, ◌==◌, ◌||◌, Bool, true, false, not, nat_lt, is_none, length, ◌∷◌, ◌++◌, [], Option, Some, None, Result, Ok, Err, if◌then◌else◌, codes}
use Rattle.std.specs.Option.{option_map_or}
use Rattle.bm_base.specs.declared.limits.TheConstants.{MOST_NODES}
use Rattle.fsck_text.specs.Cuts.{Text}
use Rattle.fsck_text.specs.Nodes.{node_line_of}
use Rattle.fsck_text.specs.Wrongs.{after_ok}
use Rattle.fsck_text.specs.declared.node.NodeLine.{NodeLine}
use Rattle.fsck_text.specs.declared.node.NodeLine.TheVariants as node
use Rattle.fsck_text.specs.declared.reason.Wrong.{Wrong}
use Rattle.fsck_files.specs.Numbers.{with_number}
use Rattle.fsck_cluster.specs.Names.{is_new, name_number, with_name}
use Rattle.fsck_cluster.specs.Clusters.{no_cluster}
use Rattle.fsck_cluster.specs.declared.cluster.Cluster.{Cluster}
use Rattle.fsck_cluster.specs.declared.cluster.NodeRow.{NodeRow}
use Rattle.fsck_cluster.specs.declared.node_list.NodeList.{NodeList}
use Rattle.fsck_cluster.specs.declared.node_list.NodeFault.{NodeFault}
use Rattle.fsck_cluster.specs.declared.node_list.NodeFault.TheVariants as fault
use Rattle.fsck_cluster.specs.declared.node_list.NodeRefusal.{NodeRefusal}
use Rattle.fsck_cluster.specs.declared.node_list.NodeRefusal.TheVariants as refusal
use Rattle.fsck_cluster.specs.declared.node_list.NodeWhy.TheVariants as why

-- nothing was read
abbrev pub no_list : NodeList
no_list = record { cluster = record no_cluster { knows_nodes = true }; is_live = false; announced = 0; was_live = false; row = None; has_status = false }

-- the list after a line, or why the line is refused
abbrev pub After : Type 0
After = Result NodeList NodeRefusal

-- adds a node on the rack of this name
abbrev pub with_row_on : NodeList → NodeRow → Text → NodeList
with_row_on s row rack = record s {
  cluster = record s.cluster { racks = with_name s.cluster.racks rack; node_rows = s.cluster.node_rows ++ record row { rack = name_number s.cluster.racks rack } ∷ [] };
  row = None;
}

abbrev pub with_row : NodeList → NodeRow → NodeList
with_row s row = record s { cluster = record s.cluster { node_rows = s.cluster.node_rows ++ row ∷ [] }; row = None }

-- Ends the node that was being read: it has a line with its free bytes and one with its state. It
-- is on the default rack if no line has another.
abbrev pub after_row : NodeList → Option NodeRow → After
after_row s None = Ok s
after_row s (Some row) =
    if is_none row.remaining then Err (refusal.Why why.NoRemaining)
    else (if not s.has_status then Err (refusal.Why why.NoStatus)
    else Ok (if row.rack == 0 then with_row_on s row (codes "/default-rack") else with_row s row))

abbrev pub ended_row : NodeList → After
ended_row s = after_row s s.row

-- the number of live nodes read is the one in the heading of their section
abbrev pub compared : NodeList → After
compared s =
    if length s.cluster.nodes == s.announced then Ok s
    else Err (refusal.Why (why.OtherNumber s.announced (length s.cluster.nodes)))

abbrev pub counted : NodeList → After
counted s = if s.is_live then compared s else Ok s

-- ends the section that was being read
abbrev pub ended_section : NodeList → After
ended_section s = after_ok counted (ended_row s)

abbrev pub sectioned : Bool → ℕ → NodeList → After
sectioned live count s = Ok (record s { is_live = live; announced = count; was_live = s.was_live || live })

-- begins a section, with the number of its nodes if they are live
abbrev pub after_section : NodeList → Bool → ℕ → After
after_section s live count = after_ok (sectioned live count) (ended_section s)

abbrev pub named : NodeList → Text → NodeList
named s address = record s {
  cluster = record s.cluster { nodes = with_name s.cluster.nodes address };
  row = Some (record { number = name_number s.cluster.nodes address; rack = 0; remaining = None });
  has_status = false;
}

abbrev pub with_node : Text → NodeList → After
with_node address s =
    if not (is_new s.cluster.nodes address) then Err (refusal.Why why.NodeTwice)
    else (if nat_lt (length s.cluster.nodes) MOST_NODES then Ok (named s address) else Err (refusal.Why why.TooManyNodes))

-- begins a node
abbrev pub after_name : NodeList → Text → After
after_name s address = after_ok (with_node address) (ended_row s)

abbrev pub on_rack : NodeList → Text → NodeRow → NodeList
on_rack s rack row = record s {
  cluster = record s.cluster { racks = with_name s.cluster.racks rack };
  row = Some (record row { rack = name_number s.cluster.racks rack });
}

-- sets the rack of the node
abbrev pub after_rack : NodeList → Text → NodeList
after_rack s rack = option_map_or (on_rack s rack) s.row s

-- the state of the node is known
abbrev pub with_status : NodeList → NodeList
with_status s = record s { has_status = true }

-- sets whether the node drains
abbrev pub after_drains : NodeList → Bool → NodeList
after_drains s drains =
    option_map_or (λ row. if drains then with_status (record s { cluster = record s.cluster { draining = with_number s.cluster.draining row.number } }) else with_status s) s.row s

-- sets the free bytes of the node
abbrev pub after_remaining : NodeList → ℕ → NodeList
after_remaining s bytes = option_map_or (λ row. record s { row = Some (record row { remaining = Some bytes }) }) s.row s

-- only nodes of the live section are read
abbrev pub when_live : NodeList → After → After
when_live s after = if s.is_live then after else Ok s

abbrev pub after_kind : NodeList → NodeLine → After
after_kind s (node.Live count) = after_section s true count
after_kind s node.NotLive = after_section s false 0
after_kind s node.Other = Ok s
after_kind s (node.Node address) = when_live s (after_name s address)
after_kind s (node.Rack rack) = when_live s (Ok (after_rack s rack))
after_kind s (node.Drains drains) = when_live s (Ok (after_drains s drains))
after_kind s (node.Remaining bytes) = when_live s (Ok (after_remaining s bytes))

abbrev pub read_as : {A B : Type 0} → (A → Result B NodeRefusal) → Result A Wrong → Result B NodeRefusal
read_as f (Ok x) = f x
read_as f (Err w) = Err (refusal.Wrong w)

-- the list after one more line
abbrev pub after_line : NodeList → Text → After
after_line s line = read_as (after_kind s) (node_line_of line)

-- ends the report, which must have a section of live nodes
abbrev pub at_end : NodeList → Result Cluster NodeRefusal
at_end s = after_ok (λ t. if t.was_live then Ok t.cluster else Err (refusal.Why why.NoLiveNodes)) (ended_section s)

-- the fault is this refusal, or out of memory
abbrev pub IsCause : {A : Type 0} → NodeFault → Result A NodeRefusal → Type 0
IsCause fault.Memory after = ⊤
IsCause (fault.Refused r) after = after ≡ Err r
