-- If each part of an answer meets its call's contract, the whole is the answer to the question.
use Rattle.std.proofs.Common.{◌≡◌, ℕ, List, [], Option, map, sym, subst}
use Rattle.std.specs.Prelude.{filter, string_bytes}
use Rattle.std.specs.Io.KnownBytes.{Appends}
use Rattle.bm_base.specs.declared.event.Event.{Event}
use Rattle.bm_base.specs.Words.{State, keys, knows_node}
use Rattle.cluster_input.specs.declared.loaded_cluster.Loaded.{Loaded}
use Rattle.cluster_lost.specs.Losses.{after_losses}
use Rattle.cluster_losses.specs.Events.{events_of}
use Rattle.cluster_losses.specs.NamedStorages.{AreNamed}
use Rattle.cluster_losses.specs.FailureDomains.{AreRacks, node_domain}
use Rattle.cluster_losses.specs.Tables.{AreRows}
use Rattle.cluster_losses.specs.declared.loss.Kind.TheVariants as kind
use Rattle.cluster_losses.specs.declared.loss.Loss.{Loss}
use Rattle.cluster_losses.specs.declared.loss.Question.{Question}
use Rattle.cluster_losses.specs.declared.failure_domains.FailureDomain.{FailureDomain}
use Rattle.cluster_losses.specs.Outcomes.{AreClusterCounts, IsOutcome}
use Rattle.cluster_losses.specs.declared.loss_events.Lost.{Lost}
use Rattle.cluster_names.specs.FileTable.{FileTable}
use Rattle.cluster_names.specs.declared.names.Names.{Names}
use Rattle.cluster_pages.specs.AtRisk.{AreAtRisk}
use Rattle.cluster_repair.specs.Reasons.{HaveReasons}
use Rattle.cluster_repair.specs.Rows.{IsDone, AreUnmended}
use Rattle.cluster_repair.specs.declared.repair.Pace.{Pace}
use Rattle.cluster_report.specs.Sessions.{Follows}
use Rattle.cluster_report.specs.declared.book.Book.{Book}
use Rattle.cluster_what_if.specs.Answers.{IsAnswer}
use Rattle.cluster_what_if.specs.Findings.{AreFound, AreFoundOf, IsFoundFor, IsMended, IsMendedAt, IsTableOfNodes, IsTableOfRacks}
use Rattle.cluster_what_if.specs.Output.{IsPrinted, found_text}
use Rattle.cluster_what_if.specs.Text.{lost_text}
use Rattle.cluster_what_if.specs.declared.answers.Answer.{Answer}
use Rattle.cluster_what_if.specs.declared.findings.Findings.{Findings}
use Rattle.cluster_what_if.specs.declared.findings.Losses.{Losses}
use Rattle.cluster_what_if.specs.declared.findings.Mended.{Mended}
use Rattle.cluster_what_if.specs.declared.findings.Table.{Table}

pub answered : (f : FileTable) (M : State) (es : List Event) (a : Answer)
    → AreClusterCounts M a.before
    → IsOutcome M es a.without
    → AreAtRisk f a.without.lost [] a.risk
    → IsAnswer f M es a
answered f M es a before without files = record { before = before; without = without; files = files }

pub mended_at_pace : (pace : Pace) (nodes : List ℕ) (old book : Book) (M N : State) (m : Mended)
    → Follows old M
    → book ≡ old
    → m.pace ≡ pace
    → m.repair.drained.items ≡ filter (knows_node M.cluster) nodes
    → IsDone pace M N m.repair
    → AreUnmended N m.unmended.items
    → HaveReasons book N.holdings m.repair.datanodes.free m.unmended.items
    → IsMended pace nodes book M N m
mended_at_pace pace nodes old book M N m follows same paced drained done unmended reasons =
    record { follows = subst (λ b. Follows b M) (sym same) follows; paced = paced; drained = drained; done = done; unmended = unmended; reasons = reasons }

pub found_at_once : (before after : Loaded) (pace : Option Pace) (lost : Lost) (it : Losses)
    → string_bytes it.named ≡ lost_text before.names before.session.book.topology.cluster lost
    → IsAnswer before.files before.session.manager (events_of lost) it.answer
    → IsMendedAt pace lost.drained.items after.session.book (after_losses before.session.manager (events_of lost)) after.session.manager it.mended
    → AreFound before after pace lost it
found_at_once before after pace lost it named answer mended = record { named = named; answer = answer; mended = mended }

pub found_of : (before after : Loaded) (pace : Option Pace) (ls : List Loss) (lost : Lost) (it : Losses)
    → AreNamed before.session.book.topology.cluster before.names ls lost
    → AreFound before after pace lost it
    → AreFoundOf before after pace ls it
found_of before after pace ls lost it named found = record { lost = lost; named = named; found = found }

pub racks_found : (before after : Loaded) (domains : List FailureDomain) (t : Table)
    → AreRacks before.session.book.topology.cluster domains
    → AreRows before.files before.session.manager domains t.rows.items
    → t.kind ≡ kind.Rack
    → after ≡ before
    → IsTableOfRacks before after t
racks_found before after domains t racks rows kind_is same = record { domains = domains; racks = racks; rows = rows; kind_is = kind_is; same = same }

pub nodes_found : (before after : Loaded) (domains : List FailureDomain) (t : Table)
    → domains ≡ map node_domain (keys before.session.book.topology.cluster.nodes)
    → AreRows before.files before.session.manager domains t.rows.items
    → t.kind ≡ kind.Node
    → after ≡ before
    → IsTableOfNodes before after t
nodes_found before after domains t is rows kind_is same =
    record { rows = subst (λ ps. AreRows before.files before.session.manager ps t.rows.items) is rows; kind_is = kind_is; same = same }

pub printed : (q : Question) (pace : Option Pace) (most : ℕ) (before after : Loaded) (old new : Option (List ℕ)) (found : Findings)
    → IsFoundFor q pace before after found
    → after.names ≡ before.names
    → after.files ≡ before.files
    → Appends old new (found_text after.names after.files most found)
    → IsPrinted q pace most before after old new
printed q pace most before after old new found is names files appends =
    let P : Names → Type 0 = λ names. Appends old new (found_text names before.files most found) in
    let Q : FileTable → Type 0 = λ files. Appends old new (found_text after.names files most found) in
    record { found = found; is = is; appends = subst P names (subst Q files appends) }
