-- The question of a command line.
use Rattle.std.specs.Prelude.{◌==◌, ◌||◌, Bool, true, false, List, [], ◌∷◌, ◌++◌, map, length, nat_lt, Option, Some, None, option_map, option_and_then, if◌then◌else◌, codes}
use Rattle.std.specs.List.{after_first, before_first, position_or_len}
use Rattle.std.specs.Str.{bytes_eq}
use Rattle.cluster_names.specs.Rows.{Text}
use Rattle.cluster_losses.specs.declared.loss.Kind.{Kind}
use Rattle.cluster_losses.specs.declared.loss.Kind.TheVariants as kind
use Rattle.cluster_losses.specs.declared.loss.Loss.{Loss}
use Rattle.cluster_losses.specs.declared.loss.Question.{Question}
use Rattle.cluster_losses.specs.declared.loss.Question.TheVariants as question

-- a kind and a name
abbrev pub LossName : Type 0
LossName = Kind × Text

abbrev pub named_of : Loss → LossName
named_of l = (l.kind, l.name.now)

-- the parts of a text before and after its first colon
abbrev pub at_colon : Text → Option (Text × Text)
at_colon text =
    if nat_lt (position_or_len (λ b. b == 58) text) (length text) then Some (before_first (λ b. b == 58) text, after_first (λ b. b == 58) text) else None

-- the word for a kind
abbrev pub kind_text : Kind → Text
kind_text kind.Rack = codes "rack"
kind_text kind.Storage = codes "storage"
kind_text _ = codes "node"

abbrev pub kind_of : Text → Option Kind
kind_of text =
    if bytes_eq text (codes "rack") then Some kind.Rack
    else (if bytes_eq text (codes "node") then Some kind.Node
    else (if bytes_eq text (codes "storage") then Some kind.Storage
    else None))

-- the loss that `rack:NAME`, `node:HOST` or `storage:ID` names
abbrev pub loss_named : Text → Option LossName
loss_named word = option_and_then (λ p. option_map (λ k. (k, p.1)) (kind_of p.0)) (at_colon word)

-- the losses that all of these words name, if each names one
abbrev pub losses_named : List Text → Option (List LossName)
losses_named [] = Some []
losses_named (w ∷ ws) = option_and_then (λ l. option_map (λ ls. l ∷ ls) (losses_named ws)) (loss_named w)

-- a node that is to be decommissioned
abbrev pub drain_named : Text → LossName
drain_named name = (kind.Drain, name)

-- nodes that drain, and then losses
abbrev pub drains_and_losses : List Text → List Text → Option (List LossName)
drains_and_losses lose drain = option_map (λ ls. map drain_named drain ++ ls) (losses_named lose)

-- what a question is about: each rack, each node, or losses that happen together
pub data LossScenario : Type 0 where
  each_rack : LossScenario
  each_node : LossScenario
  together : List LossName → LossScenario

abbrev pub scenario_of : Question → LossScenario
scenario_of question.EachRack = each_rack
scenario_of question.EachNode = each_node
scenario_of (question.Losses ls) = together (map named_of ls.items)

abbrev pub is_together : LossScenario → Bool
is_together (together ls) = true
is_together _ = false

abbrev pub together_named : List Text → List Text → Option LossScenario
together_named lose drain = option_map together (drains_and_losses lose drain)

abbrev pub alone_named : Text → Option LossScenario
alone_named word =
    if bytes_eq word (codes "each-rack") then Some each_rack
    else (if bytes_eq word (codes "each-node") then Some each_node
    else together_named (word ∷ []) [])

-- the question of at most one value of `--lose`
abbrev pub first_named : List Text → Option LossScenario
first_named [] = None
first_named (word ∷ _) = alone_named word

-- the question of the values of `--lose` and of `--drain`
abbrev pub question_named : List Text → List Text → Option LossScenario
question_named lose drain = if nat_lt 1 (length lose) || nat_lt 0 (length drain) then together_named lose drain else first_named lose
