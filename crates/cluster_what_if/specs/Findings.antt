-- The findings about losses.
use Rattle.std.specs.Prelude.{◌≡◌, ◌⊎◌, ℕ, List, Option, Some, None, filter, map, string_bytes}
use Rattle.bm_base.specs.Words.{State, keys, knows_node}
use Rattle.cluster_input.specs.declared.loaded_cluster.Loaded.{Loaded}
use Rattle.cluster_lost.specs.Losses.{after_losses}
use Rattle.cluster_losses.specs.Events.{events_of}
use Rattle.cluster_losses.specs.Faults.{IsRefusal}
use Rattle.cluster_losses.specs.NamedStorages.{AreNamed, IsFaultOf, first_unknown}
use Rattle.cluster_losses.specs.FailureDomains.{AreRacks, node_domain}
use Rattle.cluster_losses.specs.Tables.{AreRows}
use Rattle.cluster_losses.specs.declared.fault.Fault.{Fault}
use Rattle.cluster_losses.specs.declared.loss.Kind.TheVariants as kind
use Rattle.cluster_losses.specs.declared.loss.Loss.{Loss}
use Rattle.cluster_losses.specs.declared.loss.Question.{Question}
use Rattle.cluster_losses.specs.declared.loss.Question.TheVariants as question
use Rattle.cluster_losses.specs.declared.loss_events.Lost.{Lost}
use Rattle.cluster_losses.specs.declared.failure_domains.FailureDomain.{FailureDomain}
use Rattle.cluster_repair.specs.Reasons.{HaveReasons}
use Rattle.cluster_repair.specs.Rows.{IsDone, AreUnmended}
use Rattle.cluster_repair.specs.declared.repair.Pace.{Pace}
use Rattle.cluster_report.specs.Sessions.{Follows}
use Rattle.cluster_report.specs.declared.book.Book.{Book}
use Rattle.cluster_what_if.specs.Answers.{IsAnswer}
use Rattle.cluster_what_if.specs.Text.{lost_text}
use Rattle.cluster_what_if.specs.declared.findings.Findings.{Findings}
use Rattle.cluster_what_if.specs.declared.findings.Findings.TheVariants as found
use Rattle.cluster_what_if.specs.declared.findings.Losses.{Losses}
use Rattle.cluster_what_if.specs.declared.findings.Mended.{Mended}
use Rattle.cluster_what_if.specs.declared.findings.Table.{Table}

-- Rounds led from one state to another, and nothing more is copied there. The repair notes when
-- each of these nodes is retired, if it is alive. All blocks that still have a level are listed,
-- each with its reason by this book, which has the cluster and the lengths of the first state.
pub record IsMended (pace : Pace) (nodes : List ℕ) (book : Book) (M N : State) (m : Mended) : Type 0 where
  pub follows : Follows book M
  pub paced : m.pace ≡ pace
  pub drained : m.repair.drained.items ≡ filter (knows_node M.cluster) nodes
  pub done : IsDone pace M N m.repair
  pub unmended : AreUnmended N m.unmended.items
  pub reasons : HaveReasons book N.holdings m.repair.datanodes.free m.unmended.items

-- `IsMended` if there is a pace; else no round is taken
abbrev pub IsMendedAt : Option Pace → List ℕ → Book → State → State → Option Mended → Type 0
IsMendedAt None nodes book M N None = N ≡ M
IsMendedAt (Some pace) nodes book M N (Some m) = IsMended pace nodes book M N m
IsMendedAt _ nodes book M N _ = ⊥

-- The losses by name, the answer about them, and their repair.
pub record AreFound (before after : Loaded) (pace : Option Pace) (lost : Lost) (it : Losses) : Type 0 where
  pub named : string_bytes it.named ≡ lost_text before.names before.session.book.topology.cluster lost
  pub answer : IsAnswer before.files before.session.manager (events_of lost) it.answer
  pub mended : IsMendedAt pace lost.drained.items after.session.book (after_losses before.session.manager (events_of lost)) after.session.manager it.mended

-- `AreFound` for all losses that some words name
pub record AreFoundOf (before after : Loaded) (pace : Option Pace) (ls : List Loss) (it : Losses) : Type 0 where
  pub lost : Lost
  pub named : AreNamed before.session.book.topology.cluster before.names ls lost
  pub found : AreFound before after pace lost it

-- a row for each rack, which is lost alone; nothing has changed
pub record IsTableOfRacks (before after : Loaded) (t : Table) : Type 0 where
  pub domains : List FailureDomain
  pub racks : AreRacks before.session.book.topology.cluster domains
  pub rows : AreRows before.files before.session.manager domains t.rows.items
  pub kind_is : t.kind ≡ kind.Rack
  pub same : after ≡ before

-- a row for each node
pub record IsTableOfNodes (before after : Loaded) (t : Table) : Type 0 where
  pub rows : AreRows before.files before.session.manager (map node_domain (keys before.session.book.topology.cluster.nodes)) t.rows.items
  pub kind_is : t.kind ≡ kind.Node
  pub same : after ≡ before

-- the findings for a question
abbrev pub IsFoundFor : Question → Option Pace → Loaded → Loaded → Findings → Type 0
IsFoundFor (question.Losses ls) pace before after (found.Losses it) = AreFoundOf before after pace ls.items it
IsFoundFor question.EachRack pace before after (found.Table t) = IsTableOfRacks before after t
IsFoundFor question.EachNode pace before after (found.Table t) = IsTableOfNodes before after t
IsFoundFor _ pace before after _ = ⊥

-- Why a question has no answer: a name is unknown, a loss is refused, or out of memory.
abbrev pub IsFindFault : Question → Loaded → Loaded → Fault → Type 0
IsFindFault (question.Losses ls) before after f = IsFaultOf (first_unknown before.session.book.topology.cluster before.names ls.items) f ⊎ IsRefusal f
IsFindFault _ before after f = IsRefusal f
