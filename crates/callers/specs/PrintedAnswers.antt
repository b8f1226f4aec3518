-- The line of a replica, as `replica_lines` writes it.
use Rattle.std.specs.Prelude.{ℕ, List, ◌++◌, codes, decimal}
use Rattle.bm_base.specs.declared.replica.Replica.{Replica}
use Rattle.bm_base.specs.Names.{tag_name}

abbrev pub replica_line : Replica → List ℕ
replica_line r = decimal r.block ++ (codes " on " ++ (decimal r.storage ++ (codes " is " ++ (tag_name r.tag ++ codes "\n"))))
