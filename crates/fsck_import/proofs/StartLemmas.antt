-- A cluster from the report on DataNodes has no block and no storage, and numbers its nodes from 1.
use Rattle.std.proofs.Common.{◌≡◌, ℕ, ◌+◌, ◌<◌, ◌≤◌, ◌==◌, Bool, true, false, not, nat_lt, List, [], ◌∷◌, ◌++◌, Option, Some, None, Result, Ok, Err, map, length, length-append, refl, sym, ap, subst, ◌∙◌, ◌||◌, arith, true≢false, if◌then◌else◌}
use Rattle.std.specs.Prelude.{is_none, codes}
use Rattle.std.specs.List.{list_any}
use Rattle.std.specs.Option.{option_map_or}
use Rattle.std.specs.Str.{bytes_eq}
use Rattle.std.proofs.lemmas.List.{append-nil, map_push}
use Rattle.std.proofs.lemmas.Bool.{not-true, not-false}
use Rattle.bm_base.specs.Machine.Entries.{range_from}
use Rattle.bm_base.specs.declared.limits.TheConstants.{MOST_NODES}
use Rattle.fsck_text.specs.Cuts.{Text}
use Rattle.fsck_text.specs.Nodes.{node_line_of}
use Rattle.fsck_text.specs.declared.node.NodeLine.{NodeLine}
use Rattle.fsck_text.specs.declared.node.NodeLine.TheVariants as node
use Rattle.fsck_text.specs.declared.reason.Wrong.{Wrong}
use Rattle.fsck_files.specs.Numbers.{has_number, with_number}
use Rattle.fsck_cluster.specs.Names.{is_new, name_number}
use Rattle.fsck_cluster.specs.NodeLists.{no_list, with_row_on, with_row, after_row, ended_row, compared, counted, ended_section, sectioned, with_status, named, with_node, on_rack, after_rack, after_drains, after_remaining, after_section, after_name, after_kind, read_as, after_line, at_end}
use Rattle.fsck_cluster.specs.declared.cluster.Cluster.{Cluster}
use Rattle.fsck_cluster.specs.declared.cluster.NodeRow.{NodeRow}
use Rattle.fsck_cluster.specs.declared.node_list.NodeList.{NodeList}
use Rattle.fsck_cluster.specs.declared.node_list.NodeRefusal.{NodeRefusal}
use Rattle.fsck_cluster.specs.declared.node_list.NodeRefusal.TheVariants as refusal
use Rattle.fsck_cluster.specs.declared.node_list.NodeWhy.TheVariants as why
use Rattle.fsck_import.specs.Laws.{IsFresh}
use Rattle.fsck_import.specs.Starts.{after_node_lines}
use Rattle.fsck_import.proofs.NameLemmas.{same_ok, err_is_not_ok, if_ok, if_not, came_of, new_position, with_new}
use Rattle.fsck_import.proofs.BadLemmas.{node_number, count_push-names, has-last, has-with_either, in-range_from}

-- each node that drains is one of the nodes
abbrev pub DrainsWithin : Cluster → Type 0
DrainsWithin c = (n : ℕ) → has_number c.draining n ≡ true → (1 ≤ n) × (n ≤ length c.nodes)

drains_same : (c d : Cluster) → d.draining ≡ c.draining → d.nodes ≡ c.nodes → DrainsWithin c → DrainsWithin d
drains_same c d draining nodes before n h =
    let p = before n (ap (λ ns. has_number ns n) (sym draining) ∙ h) in
    (p.0, subst (λ ns. n ≤ length ns) (sym nodes) p.1)

-- the number of the node that is being read
abbrev pub number_read : Option NodeRow → List ℕ
number_read (Some row) = row.number ∷ []
number_read None = []

-- a cluster of nodes alone, with the node that is being read
pub record Nodes (c : Cluster) (row : Option NodeRow) : Type 0 where
  pub nodes : map node_number c.node_rows ++ number_read row ≡ range_from 1 (length c.nodes)
  pub storages : c.storages ≡ []
  pub rows : c.rows ≡ []
  pub blocks : c.blocks ≡ []
  pub bad : c.bad ≡ []
  pub draining : DrainsWithin c

-- the node that was being read ends
row_ended : (s : NodeList) (row : NodeRow) → Nodes s.cluster (Some row) → (t : NodeList) → (row' : NodeRow) → row'.number ≡ row.number → t.cluster.node_rows ≡ s.cluster.node_rows ++ row' ∷ []
    → t.cluster.nodes ≡ s.cluster.nodes → t.cluster.storages ≡ s.cluster.storages → t.cluster.rows ≡ s.cluster.rows → t.cluster.blocks ≡ s.cluster.blocks → t.cluster.bad ≡ s.cluster.bad → t.cluster.draining ≡ s.cluster.draining → Nodes t.cluster None
row_ended s row before t row' number rows nodes storages held blocks bad draining = record {
  nodes = append-nil (map node_number t.cluster.node_rows) ∙ ap (map node_number) rows ∙ map_push node_number s.cluster.node_rows row' ∙ ap (λ n. map node_number s.cluster.node_rows ++ n ∷ []) number ∙ before.nodes
      ∙ ap (λ ns. range_from 1 (length ns)) (sym nodes);
  storages = storages ∙ before.storages;
  rows = held ∙ before.rows;
  blocks = blocks ∙ before.blocks;
  bad = bad ∙ before.bad;
  draining = drains_same s.cluster t.cluster draining nodes before.draining;
}

row_done : (s t : NodeList) (row : NodeRow) (b : Bool) → ◌≡◌ {A = Result NodeList NodeRefusal} (Ok (if b then with_row_on s row (codes "/default-rack") else with_row s row)) (Ok t) → Nodes s.cluster (Some row)
    → Nodes t.cluster None × (t.row ≡ None)
row_done s t row true e before =
    let after = with_row_on s row (codes "/default-rack") in
    let same : after ≡ t = same_ok after t e in (
      subst (λ x. Nodes x.cluster None) same (row_ended s row before after (record row { rack = name_number s.cluster.racks (codes "/default-rack") }) refl refl refl refl refl refl refl refl),
      subst (λ x. x.row ≡ None) same refl,
    )
row_done s t row false e before =
    let after = with_row s row in
    let same : after ≡ t = same_ok after t e in
    (subst (λ x. Nodes x.cluster None) same (row_ended s row before after row refl refl refl refl refl refl refl refl), subst (λ x. x.row ≡ None) same refl)

-- after that no node is being read
ended : (s t : NodeList) → ended_row s ≡ Ok t → Nodes s.cluster s.row → Nodes t.cluster None × (t.row ≡ None)
ended s t = by s.row refl
  where
    by : (o : Option NodeRow) → s.row ≡ o → after_row s o ≡ Ok t → Nodes s.cluster o → Nodes t.cluster None × (t.row ≡ None)
    by None none e before =
        let same : s ≡ t = same_ok s t e in
        (subst (λ x. Nodes x.cluster None) same before, subst (λ x. x.row ≡ None) same none)
    by (Some row) some e before =
        let done : Result NodeList NodeRefusal = Ok (if row.rack == 0 then with_row_on s row (codes "/default-rack") else with_row s row) in
        let known = if_not (is_none row.remaining) (if not s.has_status then Err (refusal.Why why.NoStatus) else done) (refusal.Why why.NoRemaining) t e in
        row_done s t row (row.rack == 0) (if_not (not s.has_status) done (refusal.Why why.NoStatus) t known.1).1 before

-- the number of nodes read is the announced one
counted_same : (s t : NodeList) → counted s ≡ Ok t → s ≡ t
counted_same s t = by s.is_live
  where
    by : (b : Bool) → (if b then compared s else Ok s) ≡ Ok t → s ≡ t
    by true e = same_ok s t (if_ok (length s.cluster.nodes == s.announced) (Ok s) (refusal.Why (why.OtherNumber s.announced (length s.cluster.nodes))) t e).1
    by false e = same_ok s t e

ended_all : (s t : NodeList) → ended_section s ≡ Ok t → Nodes s.cluster s.row → Nodes t.cluster None × (t.row ≡ None)
ended_all s t e before =
    let first = came_of counted (ended_row s) t e in
    let same = counted_same first.0 t first.2 in
    let done = ended s first.0 first.1 before in
    (subst (λ x. Nodes x.cluster None) same done.0, subst (λ x. x.row ≡ None) same done.1)

-- a node begins
named_nodes : (s : NodeList) (address : Text) → is_new s.cluster.nodes address ≡ true → Nodes s.cluster None → Nodes (named s address).cluster (named s address).row
named_nodes s address new before =
    let none : list_any (bytes_eq address) s.cluster.nodes ≡ false = not-true (list_any (bytes_eq address) s.cluster.nodes) new in
    let number : name_number s.cluster.nodes address ≡ length s.cluster.nodes + 1 = ap (λ n. n + 1) (new_position (bytes_eq address) s.cluster.nodes none) in
    record {
      nodes = ap (λ t. t ++ name_number s.cluster.nodes address ∷ []) (sym (append-nil (map node_number s.cluster.node_rows)) ∙ before.nodes)
          ∙ ap (λ n. range_from 1 (length s.cluster.nodes) ++ n ∷ []) number
          ∙ count_push-names s.cluster.nodes address
          ∙ ap (λ ns. range_from 1 (length ns)) (sym (with_new s.cluster.nodes address none));
      storages = before.storages;
      rows = before.rows;
      blocks = before.blocks;
      bad = before.bad;
      draining = λ n h. ((before.draining n h).0, subst (λ ns. n ≤ length ns) (sym (with_new s.cluster.nodes address none)) (further n (before.draining n h).1));
    }
  where
    further : (n : ℕ) → n ≤ length s.cluster.nodes → n ≤ length (s.cluster.nodes ++ address ∷ [])
    further n h = omega (arith, h, length-append s.cluster.nodes (address ∷ []))

node_nodes : (s t : NodeList) (address : Text) → after_name s address ≡ Ok t → Nodes s.cluster s.row → Nodes t.cluster t.row
node_nodes s t address e before =
    let first = came_of (with_node address) (ended_row s) t e in
    let m = first.0 in
    let done = ended s m first.1 before in
    let new = if_not (not (is_new m.cluster.nodes address)) (if nat_lt (length m.cluster.nodes) MOST_NODES then Ok (named m address) else Err (refusal.Why why.TooManyNodes)) (refusal.Why why.NodeTwice) t first.2 in
    let same : named m address ≡ t = same_ok (named m address) t (if_ok (nat_lt (length m.cluster.nodes) MOST_NODES) (Ok (named m address)) (refusal.Why why.TooManyNodes) t new.1).1 in
    subst (λ x. Nodes x.cluster x.row) same (named_nodes m address (not-false (is_new m.cluster.nodes address) new.0) done.0)

section_nodes : (s t : NodeList) (live : Bool) (count : ℕ) → after_section s live count ≡ Ok t → Nodes s.cluster s.row → Nodes t.cluster t.row
section_nodes s t live count e before =
    let first = came_of (sectioned live count) (ended_section s) t e in
    let done = ended_all s first.0 first.1 before in
    let now : Nodes first.0.cluster first.0.row = subst (Nodes first.0.cluster) (sym done.1) done.0 in
    subst (λ x. Nodes x.cluster x.row) (same_ok (record first.0 { is_live = live; announced = count; was_live = first.0.was_live || live }) t first.2) now

-- the lines about a node
with_same : (c d : Cluster) (o p : Option NodeRow) → Nodes c o → d.node_rows ≡ c.node_rows → d.nodes ≡ c.nodes → number_read p ≡ number_read o → d.storages ≡ c.storages → d.rows ≡ c.rows → d.blocks ≡ c.blocks → d.bad ≡ c.bad → d.draining ≡ c.draining → Nodes d p
with_same c d o p before rows nodes number storages held blocks bad draining = record {
  nodes = ap (λ r. map node_number r ++ number_read p) rows ∙ ap (λ n. map node_number c.node_rows ++ n) number ∙ before.nodes ∙ ap (λ ns. range_from 1 (length ns)) (sym nodes);
  storages = storages ∙ before.storages;
  rows = held ∙ before.rows;
  blocks = blocks ∙ before.blocks;
  bad = bad ∙ before.bad;
  draining = drains_same c d draining nodes before.draining;
}

rack_nodes : (s : NodeList) (rack : Text) → Nodes s.cluster s.row → Nodes (after_rack s rack).cluster (after_rack s rack).row
rack_nodes s rack before = by s.row refl
  where
    by : (o : Option NodeRow) → s.row ≡ o → Nodes (option_map_or (on_rack s rack) o s).cluster (option_map_or (on_rack s rack) o s).row
    by None e = before
    by (Some row) e = with_same s.cluster _ s.row _ before refl refl (ap number_read (sym e)) refl refl refl refl refl

-- the node that is being read is the last one
one_drains : (c : Cluster) (row : NodeRow) → Nodes c (Some row) → (n : ℕ) → has_number (with_number c.draining row.number) n ≡ true → (1 ≤ n) × (n ≤ length c.nodes)
one_drains c row before n h = by (has_number c.draining n) refl
  where
    known : has_number (map node_number c.node_rows ++ row.number ∷ []) row.number ≡ true
    known = has-last (map node_number c.node_rows) row.number

    counted : (1 ≤ row.number) × (row.number < 1 + length c.nodes)
    counted = in-range_from 1 (length c.nodes) row.number (ap (λ ns. has_number ns row.number) (sym before.nodes) ∙ known)

    by : (b : Bool) → has_number c.draining n ≡ b → (1 ≤ n) × (n ≤ length c.nodes)
    by true k = before.draining n k
    by false k =
        let same : n ≡ row.number = has-with_either c.draining row.number n h k in
        (omega (arith, same, counted.0), omega (arith, same, counted.1))

drains_nodes : (s : NodeList) (drains : Bool) → Nodes s.cluster s.row → Nodes (after_drains s drains).cluster (after_drains s drains).row
drains_nodes s drains before = by s.row refl drains
  where
    by : (o : Option NodeRow) → s.row ≡ o → (b : Bool) → Nodes (option_map_or (λ row. if b then with_status (record s { cluster = record s.cluster { draining = with_number s.cluster.draining row.number } }) else with_status s) o s).cluster
        (option_map_or (λ row. if b then with_status (record s { cluster = record s.cluster { draining = with_number s.cluster.draining row.number } }) else with_status s) o s).row
    by None e b = before
    by (Some row) e true = record {
      nodes = before.nodes;
      storages = before.storages;
      rows = before.rows;
      blocks = before.blocks;
      bad = before.bad;
      draining = one_drains s.cluster row (subst (Nodes s.cluster) e before);
    }
    by (Some row) e false = record {
      nodes = before.nodes;
      storages = before.storages;
      rows = before.rows;
      blocks = before.blocks;
      bad = before.bad;
      draining = before.draining;
    }

remaining_nodes : (s : NodeList) (bytes : ℕ) → Nodes s.cluster s.row → Nodes (after_remaining s bytes).cluster (after_remaining s bytes).row
remaining_nodes s bytes before = by s.row refl
  where
    by : (o : Option NodeRow) → s.row ≡ o → Nodes (option_map_or (λ row. record s { row = Some (record row { remaining = Some bytes }) }) o s).cluster
        (option_map_or (λ row. record s { row = Some (record row { remaining = Some bytes }) }) o s).row
    by None e = before
    by (Some row) e = with_same s.cluster s.cluster s.row (Some (record row { remaining = Some bytes })) before refl refl (ap number_read (sym e)) refl refl refl refl refl

at_ok : (s t : NodeList) → ◌≡◌ {A = Result NodeList NodeRefusal} (Ok s) (Ok t) → Nodes s.cluster s.row → Nodes t.cluster t.row
at_ok s t e before = subst (λ x. Nodes x.cluster x.row) (same_ok s t e) before

-- a line that counts only in the section of live nodes
live_nodes : (s t : NodeList) (after : Result NodeList NodeRefusal) → (if s.is_live then after else Ok s) ≡ Ok t → Nodes s.cluster s.row → (after ≡ Ok t → Nodes t.cluster t.row) → Nodes t.cluster t.row
live_nodes s t after e before then_nodes = by s.is_live e
  where
    by : (b : Bool) → (if b then after else Ok s) ≡ Ok t → Nodes t.cluster t.row
    by true e = then_nodes e
    by false e = at_ok s t e before

kind_nodes : (s t : NodeList) (kind : NodeLine) → after_kind s kind ≡ Ok t → Nodes s.cluster s.row → Nodes t.cluster t.row
kind_nodes s t (node.Live count) e before = section_nodes s t true count e before
kind_nodes s t node.NotLive e before = section_nodes s t false 0 e before
kind_nodes s t node.Other e before = at_ok s t e before
kind_nodes s t (node.Node address) e before = live_nodes s t (after_name s address) e before (λ h. node_nodes s t address h before)
kind_nodes s t (node.Rack rack) e before = live_nodes s t (Ok (after_rack s rack)) e before (λ h. at_ok (after_rack s rack) t h (rack_nodes s rack before))
kind_nodes s t (node.Drains drains) e before = live_nodes s t (Ok (after_drains s drains)) e before (λ h. at_ok (after_drains s drains) t h (drains_nodes s drains before))
kind_nodes s t (node.Remaining bytes) e before = live_nodes s t (Ok (after_remaining s bytes)) e before (λ h. at_ok (after_remaining s bytes) t h (remaining_nodes s bytes before))

line_nodes : (s t : NodeList) (line : Text) → after_line s line ≡ Ok t → Nodes s.cluster s.row → Nodes t.cluster t.row
line_nodes s t line = by (node_line_of line)
  where
    by : (r : Result NodeLine Wrong) → read_as (after_kind s) r ≡ Ok t → Nodes s.cluster s.row → Nodes t.cluster t.row
    by (Ok kind) e before = kind_nodes s t kind e before
    by (Err w) e before = absurd (err_is_not_ok (refusal.Wrong w) t e)

lines_nodes : (s t : NodeList) (lines : List Text) → after_node_lines s lines ≡ Ok t → Nodes s.cluster s.row → Nodes t.cluster t.row
lines_nodes s t [] e before = at_ok s t e before
lines_nodes s t (line ∷ lines) e before =
    let first = came_of (λ x. after_node_lines x lines) (after_line s line) t e in
    lines_nodes first.0 t lines first.2 (line_nodes s first.0 line first.1 before)

pub nodes_fresh : (lines : List Text) (s : NodeList) (c : Cluster) → after_node_lines no_list lines ≡ Ok s → at_end s ≡ Ok c → IsFresh c
nodes_fresh lines s c taken e =
    let read = lines_nodes no_list s lines taken (record { nodes = refl; storages = refl; rows = refl; blocks = refl; bad = refl; draining = λ n h. absurd (true≢false (sym h)) }) in
    let last = came_of (λ t. if t.was_live then Ok t.cluster else Err (refusal.Why why.NoLiveNodes)) (ended_section s) c e in
    let m = last.0 in
    let done = (ended_all s m last.1 read).0 in
    let same : m.cluster ≡ c = same_ok m.cluster c (if_ok m.was_live (Ok m.cluster) (refusal.Why why.NoLiveNodes) c last.2).1 in
    subst IsFresh same (record {
      nodes = sym (append-nil (map node_number m.cluster.node_rows)) ∙ done.nodes;
      storages = done.storages;
      rows = done.rows;
      blocks = done.blocks;
      bad = done.bad;
      draining = done.draining;
    })
