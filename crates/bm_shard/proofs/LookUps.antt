-- A shard shows a looked-up notice or report only if one for that storage was prepared.
use Rattle.std.proofs.Common.{◌≡◌, ℕ, List, Some}
use Rattle.bm_base.specs.Machine.Entries.{ReportedBlock}
use Rattle.bm_report.specs.Ready.{LookedUpReport, reported_blocks}
use Rattle.bm_shard.specs.declared.shard.PreparedEvent.{PreparedEvent}
use Rattle.bm_shard.specs.declared.shard.PreparedEvent.TheVariants as prepared
use Rattle.bm_shard.specs.ShardView.{NoticeOf, ReportOf}
use Rattle.bm_shard.specs.Inside.{report_of}

-- a report is seen only if one of that storage was prepared
pub looked_up : (r : LookedUpReport) (p : PreparedEvent) (s : ℕ) (ts : List ReportedBlock) → report_of r p ≡ Some (ReportOf s ts) → (p ≡ prepared.Report s) × (reported_blocks r ≡ ts)
looked_up r prepared.Nothing s ts e = cc
looked_up r (prepared.Entry b) s ts e = cc
looked_up r (prepared.Notice t) s ts e = cc
looked_up r (prepared.Report t) s ts e = (cc, cc)

-- a notice is seen only if one of that storage was prepared
pub noticed : (r : LookedUpReport) (p : PreparedEvent) (s : ℕ) (ts : List ReportedBlock) → report_of r p ≡ Some (NoticeOf s ts) → (p ≡ prepared.Notice s) × (reported_blocks r ≡ ts)
noticed r prepared.Nothing s ts e = cc
noticed r (prepared.Entry b) s ts e = cc
noticed r (prepared.Notice t) s ts e = (cc, cc)
noticed r (prepared.Report t) s ts e = cc
