-- The rule of `left_right`: what a slot saw once is a prefix of the current value. A slot is a
-- locator or the publisher; its view is the evidence of what it saw last.
use Rattle.std.specs.Prelude.{◌≡◌, ℕ, List, Option, Some, None}
use mathlib.Core.Option.{some}
use mathlib.Core.List.{IsPrefix}
use lib.ListN.{get_elem?}
use Rattle.bm_base.specs.Promises.Versions.{Version}
use Rattle.bm_view.specs.Journal.{Known}
use Rattle.bm_view.specs.Holders.{Home}
use Rattle.bm_view.specs.History.{shown_in}

-- a prefix of a journal
abbrev pub Evidence : Type 0
Evidence = Known

-- of the same journal, and the early list is a prefix of the late one
pub record Extends (early late : Evidence) : Type 0 where
  pub home : early.home ≡ late.home
  pub list : IsPrefix (shown_in early.log) (shown_in late.log)

-- what a slot saw is a prefix of the current value, if it saw anything
abbrev pub BeginsShown : Option Evidence → Evidence → Type 0
BeginsShown None shown = Unit {0}
BeginsShown (Some seen) shown = Extends seen shown

-- `BeginsShown` for each slot
abbrev pub Kept : Evidence → List (Option Evidence) → Type 0
Kept shown views = (slot : ℕ) (v : Option Evidence) → get_elem? views slot ≡ some v → BeginsShown v shown

-- A slot with this view reads the current value, which is its view afterwards.
abbrev pub Sees : Option Evidence → Evidence → Option Evidence → Type 0
Sees v shown w = BeginsShown v shown × (w ≡ Some shown)

-- a slot with this view saw at least that list, of this journal
abbrev pub HasSeen : Option Evidence → Home → List Version → Type 0
HasSeen None home list = ⊥
HasSeen (Some seen) home list = (seen.home ≡ home) × IsPrefix list (shown_in seen.log)
