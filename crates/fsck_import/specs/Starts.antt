-- The nodes of the report on DataNodes, line by line. If there is such a report, the cluster starts
-- with them.
use Rattle.std.specs.Prelude.{List, [], ◌∷◌, Ok}
use Rattle.fsck_text.specs.Cuts.{Text}
use Rattle.fsck_text.specs.Wrongs.{after_ok}
use Rattle.fsck_cluster.specs.NodeLists.{After, after_line}
use Rattle.fsck_cluster.specs.declared.node_list.NodeList.{NodeList}

-- after these lines of the report, one after another
abbrev pub after_node_lines : NodeList → List Text → After
after_node_lines s [] = Ok s
after_node_lines s (line ∷ lines) = after_ok (λ t. after_node_lines t lines) (after_line s line)
