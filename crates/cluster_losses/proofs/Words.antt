-- The `--drain` nodes, and then the losses that the `--lose` words name, are the whole question.
use Rattle.std.proofs.Common.{◌≡◌, ◌∙◌, List, ◌++◌, Option, Some, None, refl, sym, ap, map}
use Rattle.std.specs.Prelude.{option_map}
use Rattle.cluster_names.specs.Rows.{Text}
use Rattle.cluster_losses.specs.Questions.{LossName, LossScenario, together, drain_named, losses_named, together_named}

-- what is asked by these losses and those of the words that are left
abbrev pub scenario_with : List LossName → List Text → Option LossScenario
scenario_with ls ws = option_map (λ more. together (ls ++ more)) (losses_named ws)

fused : (ls : List LossName) (o : Option (List LossName)) → option_map together (option_map (λ more. ls ++ more) o) ≡ option_map (λ more. together (ls ++ more)) o
fused ls None = refl
fused ls (Some more) = refl

pub asked_first : (ls : List LossName) (lose drain : List Text) → ls ≡ map drain_named drain → together_named lose drain ≡ scenario_with ls lose
asked_first ls lose drain is = fused (map drain_named drain) (losses_named lose) ∙ ap (λ xs. scenario_with xs lose) (sym is)
