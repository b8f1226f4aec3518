-- The table of names: the number of each rack, node and storage. The words are separated by tabs,
-- which no printed name has, and a line ends with the byte 10.
use Rattle.std.specs.Prelude.{◌++◌, codes, decimal}
use Rattle.std.specs.List.{flat_map}
use Rattle.fsck_text.specs.Cuts.{Text}
use Rattle.fsck_text.specs.Escapes.{escaped}
use Rattle.fsck_cluster.specs.Names.{name_of}
use Rattle.fsck_cluster.specs.declared.rows.Row.{Row}
use Rattle.fsck_cluster.specs.declared.cluster.NodeRow.{NodeRow}
use Rattle.fsck_cluster.specs.declared.cluster.Cluster.{Cluster}

-- a node and its rack, each by number and name
unfoldable pub node_line : Cluster → NodeRow → Text
node_line c row =
    codes "node\t" ++ (decimal row.number ++ (codes "\t" ++ (escaped (name_of c.nodes row.number)
    ++ (codes "\t" ++ (decimal row.rack ++ (codes "\t" ++ (escaped (name_of c.racks row.rack) ++ codes "\n")))))))

-- a storage and its node
unfoldable pub storage_line : Cluster → Row → Text
storage_line c row =
    codes "storage\t" ++ (decimal row.number ++ (codes "\t" ++ (escaped (name_of c.storages row.number)
    ++ (codes "\t" ++ (decimal row.node ++ (codes "\t" ++ (escaped (name_of c.nodes row.node) ++ codes "\n")))))))

-- a line for each node and each storage, in the order of their numbers
unfoldable pub table_of : Cluster → Text
table_of c = flat_map (node_line c) c.node_rows ++ flat_map (storage_line c) c.rows
