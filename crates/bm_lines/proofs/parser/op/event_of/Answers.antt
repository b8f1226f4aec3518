use Rattle.std.proofs.Common.{ap, sym}
use Rattle.bm_lines.specs.Parser.Op.{event_of}
use Rattle.bm_lines.proofs.parser.op.event_of.Goals as goal

pub returns-in-register : goal.returns-in-register
returns-in-register c = ap event_of (sym c.in-register.is)

pub returns-in-heartbeat : goal.returns-in-heartbeat
returns-in-heartbeat c = ap event_of (sym c.in-heartbeat.is)

pub returns-in-dead : goal.returns-in-dead
returns-in-dead c = ap event_of (sym c.in-dead.is)

pub returns-in-storage_failed : goal.returns-in-storage_failed
returns-in-storage_failed c = ap event_of (sym c.in-storage_failed.is)

pub returns-in-drain : goal.returns-in-drain
returns-in-drain c = ap event_of (sym c.in-drain.is)

pub returns-in-undrain : goal.returns-in-undrain
returns-in-undrain c = ap event_of (sym c.in-undrain.is)

pub returns-in-add : goal.returns-in-add
returns-in-add c = ap event_of (sym c.in-add.is)

pub returns-in-delete : goal.returns-in-delete
returns-in-delete c = ap event_of (sym c.in-delete.is)

pub returns-in-set_replication : goal.returns-in-set_replication
returns-in-set_replication c = ap event_of (sym c.in-set_replication.is)

pub returns-in-restamp : goal.returns-in-restamp
returns-in-restamp c = ap event_of (sym c.in-restamp.is)

pub returns-in-received : goal.returns-in-received
returns-in-received c = ap event_of (sym c.in-received.is)

pub returns-in-deleted : goal.returns-in-deleted
returns-in-deleted c = ap event_of (sym c.in-deleted.is)

pub returns-in-corrupt : goal.returns-in-corrupt
returns-in-corrupt c = ap event_of (sym c.in-corrupt.is)

pub returns-in-report : goal.returns-in-report
returns-in-report c = ap event_of (sym c.in-report.is)
