-- Storages with a live replica, looked up and sorted, for a single pass.
use Rattle.std.specs.Prelude.{◌≡◌, ℕ, false, List, map}
use Rattle.std.specs.declared.cmp.Ordering.{Ordering}
use Rattle.std.specs.Ordering.{nat_cmp, ordering_then}
use Rattle.std.specs.List.Sorted.{IsSorted}
use Rattle.bm_base.specs.Words.{Map, by_number, has_repeats, Cluster}
use Rattle.bm_place.specs.declared.holders.Holder.{Holder}
use Rattle.bm_place.specs.RackCounts.{CountsRacks}
use Rattle.bm_place.specs.Holders.{holder_at}

-- The order of excess within a class: one with fewer remaining bytes, then the greater number.
abbrev pub cmp_in_class : Holder → Holder → Ordering
cmp_in_class g h = ordering_then (nat_cmp g.remaining h.remaining) (nat_cmp h.storage g.storage)

-- these storages, looked up, are in that order, each once, and the counts have the number of them
-- on each rack
pub record AreReady (C : Cluster) (ss : List ℕ) (holders : List Holder) (counts : Map by_number ℕ) : Type 0 where
  pub looked_up : holders ≡ map (holder_at C) ss
  pub in_order : IsSorted cmp_in_class holders
  pub once : has_repeats ss ≡ false
  pub counted : CountsRacks C ss counts
