-- Each step keeps what a slot saw a prefix of the current value, if new values extend old ones.
use Rattle.std.proofs.Common.{◌≡◌, ◌≢◌, ℕ, List, [], ◌∷◌, ◌++◌, Option, Some, None, set, refl, sym, ◌∙◌, subst, ⊎_elim}
use mathlib.Core.Option.{some}
use lib.ListN.{get_elem?}
use Rattle.crossbeam_utils.specs.Register.{Admits, TurnsAt, Turns, Forks, Merges}
use Rattle.atomic_table.proofs.Lists.{at_set, at_snoc}
use Rattle.bm_view.specs.History.{shown_in}
use Rattle.bm_view.specs.Rule.{Evidence, Extends, BeginsShown, Kept, Sees}
use Rattle.bm_view.proofs.Prefixes.{prefix_self, prefix_trans}

abbrev Holds : Evidence → List (Option Evidence) → Type 0
Holds = Kept

pub goes_self : (s : Evidence) → Extends s s
goes_self s = record { home = refl; list = prefix_self (shown_in s.log) }

pub goes_trans : (s t u : Evidence) → Extends s t → Extends t u → Extends s u
goes_trans s t u a b = record { home = a.home ∙ b.home; list = prefix_trans (shown_in s.log) (shown_in t.log) (shown_in u.log) a.list b.list }

pub fits_later : (v : Option Evidence) (s t : Evidence) → BeginsShown v s → Extends s t → BeginsShown v t
fits_later None s t f g = tt
fits_later (Some v) s t f g = goes_trans v s t f g

-- the view of one slot changes
kept_set : (shown : Evidence) (views : List (Option Evidence)) (slot : ℕ) (w : Option Evidence) → ((j : ℕ) (u : Option Evidence) → get_elem? views j ≡ some u → BeginsShown u shown) → BeginsShown w shown → Kept shown (set views slot w)
kept_set shown views slot w others mine j u e =
    ⊎_elim
    (λ (x : (j ≡ slot) × (w ≡ u)). subst (λ u. BeginsShown u shown) x.1 mine)
    (λ (x : (j ≢ slot) × (get_elem? views j ≡ some u)). others j u x.1)
    (at_set views slot j w u e)

kept_snoc : (shown : Evidence) (views : List (Option Evidence)) (w : Option Evidence) → Kept shown views → BeginsShown w shown → Kept shown (views ++ w ∷ [])
kept_snoc shown views w h mine j u e = ⊎_elim (h j u) (λ (same : w ≡ u). subst (λ u. BeginsShown u shown) same mine) (at_snoc views w u j e)

pub admits : Admits Holds None
admits x views h = kept_snoc x views None h tt

-- a reader enters
pub enters : (slot : ℕ) (v : Option Evidence) → Turns Holds slot v (λ x. x) (λ v x y w. Sees v y w)
enters slot v x views h at = (Some x, kept_set x views slot (Some x) h (goes_self x), (h slot v at, refl))

-- the publisher shows a later version
pub shows : (slot : ℕ) (v : Option Evidence) (x y : Evidence) (next : Evidence) → Extends x next → y ≡ next → TurnsAt Holds slot v x y (λ v x y w. w ≡ Some y)
shows slot v x y next goes is views h at =
    let later : Extends x y = subst (Extends x) (sym is) goes in
    (Some y, kept_set y views slot (Some y) (λ j u e. fits_later u x y (h j u e) later) (goes_self y), refl)

-- the publisher passes on what it saw
pub shares : (slot : ℕ) (v : Option Evidence) → Forks Holds slot v v v
shares slot v x views h at = kept_snoc x (set views slot v) v (kept_set x views slot v h (h slot v at)) (h slot v at)

-- a locator learns it
pub learns : (slot : ℕ) (v : Option Evidence) (other : ℕ) (note : Option Evidence) → Merges Holds slot v other note note None
learns slot v other note x views h at apart there =
    let theirs = ⊎_elim (λ (t : (other ≡ slot) × (note ≡ note)). absurd (apart t.0)) (λ (t : (other ≢ slot) × (get_elem? views other ≡ some note)). h other note t.1) (at_set views slot other note note there) in
    kept_set x (set views slot note) other None (kept_set x views slot note h theirs) tt
