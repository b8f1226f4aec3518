-- The report on a loaded cluster.
use Rattle.std.specs.Prelude.{◌≡◌, ℕ, ⊤, List, Option}
use Rattle.std.specs.Io.KnownBytes.{Appends}
use Rattle.cluster_input.specs.declared.loaded_cluster.Loaded.{Loaded}
use Rattle.cluster_report.specs.Reports.{report_of}
use Rattle.cluster_pages.specs.AtRisk.{AreAtRisk}
use Rattle.cluster_pages.specs.Text.{report_text}
use Rattle.cluster_pages.specs.declared.files_at_risk.AtRisk.{AtRisk}
use Rattle.cluster_pages.specs.declared.output.PrintFault.{PrintFault}
use Rattle.cluster_pages.specs.declared.output.PrintFault.TheVariants as fault
use Rattle.cluster_pages.specs.declared.output.ClusterReport.{ClusterReport}

-- the report on the manager's state, and the files of its missing and its most urgent blocks
pub record IsClusterReport (loaded : Loaded) (s : ClusterReport) : Type 0 where
  pub report : s.report ≡ report_of loaded.session.manager
  pub risk : AreAtRisk loaded.files s.report.missing s.report.urgent s.risk

-- the text is that of the report
pub record IsReportOn (loaded : Loaded) (most : ℕ) (text : List ℕ) : Type 0 where
  pub cluster : ClusterReport
  pub is_report : IsClusterReport loaded cluster
  pub text_is : text ≡ report_text loaded.names loaded.files most cluster.report cluster.risk

-- the text of the report is appended to the earlier output
pub record PrintsReport (loaded : Loaded) (most : ℕ) (old new : Option (List ℕ)) : Type 0 where
  pub text : List ℕ
  pub is_report : IsReportOn loaded most text
  pub appends : Appends old new text

-- nothing is written if the text cannot be made
abbrev pub WritesNothing : {W : Type 0} → PrintFault → W → W → Type 0
WritesNothing fault.Memory old new = new ≡ old
WritesNothing (fault.Write error) old new = ⊤
