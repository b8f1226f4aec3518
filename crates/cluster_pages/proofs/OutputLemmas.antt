-- The printed text is that of the report on the loaded cluster.
use Rattle.std.proofs.Common.{◌≡◌, ℕ, List, Option}
use Rattle.std.specs.Io.KnownBytes.{Appends}
use Rattle.cluster_input.specs.declared.loaded_cluster.Loaded.{Loaded}
use Rattle.cluster_pages.specs.Output.{IsReportOn, PrintsReport, IsClusterReport}
use Rattle.cluster_pages.specs.Text.{report_text}
use Rattle.cluster_pages.specs.declared.output.ClusterReport.{ClusterReport}

-- the text of the counts is a report
pub reported : (loaded : Loaded) (most : ℕ) (text : List ℕ) (cluster : ClusterReport)
    → IsClusterReport loaded cluster
    → text ≡ report_text loaded.names loaded.files most cluster.report cluster.risk
    → IsReportOn loaded most text
reported loaded most text cluster is_report text_is =
    record { cluster = cluster; is_report = is_report; text_is = text_is }

-- it is printed
pub printed : (loaded : Loaded) (most : ℕ) (old new : Option (List ℕ)) (text : List ℕ)
    → IsReportOn loaded most text
    → Appends old new text
    → PrintsReport loaded most old new
printed loaded most old new text is_report appends =
    record { text = text; is_report = is_report; appends = appends }
