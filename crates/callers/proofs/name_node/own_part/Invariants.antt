use Rattle.std.proofs.Common.{◌≡◌, ◌==◌, false, All, take}
use Rattle.callers.proofs.name_node.own_part.Given as goal

-- none of the commands so far is for the node
abbrev pub invariant-loop-commands : goal.invariant-loop-commands
invariant-loop-commands l = All (λ k. (k.node == l.node) ≡ false) (take l.commands-index l.nodes)
