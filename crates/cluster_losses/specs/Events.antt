-- The events by which nodes and storages are lost.
use Rattle.std.specs.Prelude.{ℕ, List, ◌++◌, map}
use Rattle.bm_base.specs.declared.event.Event.{Event}
use Rattle.bm_base.specs.declared.event.Event.TheVariants.{Dead, StorageFailed, Drain}
use Rattle.cluster_losses.specs.declared.loss_events.Lost.{Lost}

abbrev pub drain : ℕ → Event
drain n = Drain n

abbrev pub failure : ℕ → Event
failure s = StorageFailed s

abbrev pub death : ℕ → Event
death n = Dead n

-- First nodes drain, then storages fail, then nodes die.
abbrev pub events_of : Lost → List Event
events_of lost = map drain lost.drained.items ++ (map failure lost.storages.items ++ map death lost.nodes.items)
