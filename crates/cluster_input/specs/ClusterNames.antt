-- The names of a loaded cluster.
use Rattle.std.specs.Prelude.{ℕ, ◌++◌, ◌∷◌, [], fold, if◌then◌else◌}
use Rattle.cluster_names.specs.Rows.{Rows, is_free}
use Rattle.cluster_names.specs.declared.names.Names.{Names}
use Rattle.fsck_text.specs.Cuts.{Text}
use Rattle.fsck_text.specs.Escapes.{escaped}
use Rattle.fsck_cluster.specs.Names.{name_of}
use Rattle.fsck_cluster.specs.declared.cluster.Cluster.{Cluster}
use Rattle.fsck_cluster.specs.declared.cluster.NodeRow.{NodeRow}
use Rattle.fsck_cluster.specs.declared.rows.Row.{Row}

abbrev pub no_names : Names
no_names = record { racks = []; nodes = []; storages = [] }

-- with one more number and name, unless one of them is known
abbrev pub with_row : Rows → ℕ → Text → Rows
with_row rows number name = if is_free rows number name then rows ++ (number, name) ∷ [] else rows

-- with one more name, as it is printed
abbrev pub with_name : Rows → ℕ → Text → Rows
with_name rows number name = with_row rows number (escaped name)

-- with a node and its rack
abbrev pub with_node : Cluster → Names → NodeRow → Names
with_node c names row = record names {
  racks = with_name names.racks row.rack (name_of c.racks row.rack);
  nodes = with_name names.nodes row.number (name_of c.nodes row.number);
}

abbrev pub with_storage : Cluster → Names → Row → Names
with_storage c names row = record names { storages = with_name names.storages row.number (name_of c.storages row.number) }

abbrev pub names_of : Cluster → Names
names_of c = fold (with_storage c) (fold (with_node c) no_names c.node_rows) c.rows
