-- The text that is printed.
use Rattle.std.specs.Prelude.{ℕ, List, [], ◌++◌, Option, Some, None, string_bytes}
use Rattle.std.specs.Io.KnownBytes.{Appends}
use Rattle.cluster_input.specs.declared.loaded_cluster.Loaded.{Loaded}
use Rattle.cluster_losses.specs.declared.loss.Question.{Question}
use Rattle.cluster_names.specs.FileTable.{FileTable}
use Rattle.cluster_names.specs.declared.names.Names.{Names}
use Rattle.cluster_repair.specs.declared.repair.Pace.{Pace}
use Rattle.cluster_what_if.specs.Findings.{IsFoundFor}
use Rattle.cluster_what_if.specs.RepairText.{repair_text}
use Rattle.cluster_what_if.specs.Table.{table_text}
use Rattle.cluster_what_if.specs.Text.{answer_text}
use Rattle.cluster_what_if.specs.declared.findings.Findings.{Findings}
use Rattle.cluster_what_if.specs.declared.findings.Findings.TheVariants as found
use Rattle.cluster_what_if.specs.declared.findings.Losses.{Losses}
use Rattle.cluster_what_if.specs.declared.findings.Mended.{Mended}

-- the repair, if one was asked for
abbrev pub mended_text : Names → FileTable → ℕ → Option Mended → List ℕ
mended_text names f most None = []
mended_text names f most (Some m) = repair_text names f most m

-- the losses by name, the answer, and the repair
unfoldable pub losses_text : Names → FileTable → ℕ → Losses → List ℕ
losses_text names f most it = string_bytes it.named ++ (answer_text f most it.answer ++ mended_text names f most it.mended)

-- the lines of the findings
abbrev pub found_text : Names → FileTable → ℕ → Findings → List ℕ
found_text names f most (found.Losses it) = losses_text names f most it
found_text names f most (found.Table it) = table_text names f it

-- the findings are printed, with at most this number of blocks and files of each list
pub record IsPrinted (q : Question) (pace : Option Pace) (most : ℕ) (before after : Loaded) (old new : Option (List ℕ)) : Type 0 where
  pub found : Findings
  pub is : IsFoundFor q pace before after found
  pub appends : Appends old new (found_text before.names before.files most found)
