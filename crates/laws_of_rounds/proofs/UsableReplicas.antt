-- A replica is usable exactly if it is live or drained, and copies are made from those only.
use Rattle.std.specs.Prelude.{◌≡◌, ℕ, Bool, true, false, not, ◌&&◌, ◌||◌, ◌==◌, Option, Some, None}
use Rattle.std.specs.Option.{option_map_or}
use Rattle.std.proofs.Common.{refl, sym, ◌∙◌}
use Rattle.std.proofs.lemmas.List.Folds.{list_any-append}
use Rattle.bm_base.specs.declared.replica.Marks.{Marks}
use Rattle.bm_base.specs.Words.{get, Cluster, Holdings, replica_at, has, has_repeats, live, drained, sources_of, is_usable, is_live_on, is_drained_on, is_draining, usable}
use Rattle.bm_base.proofs.Membership.{has_where, once_where}

pub live_once : (C : Cluster) (H : Holdings) (b : ℕ) → has_repeats (live C H b) ≡ false
live_once C H b = once_where (is_live_on C) H b

pub drained_once : (C : Cluster) (H : Holdings) (b : ℕ) → has_repeats (drained C H b) ≡ false
drained_once C H b = once_where (is_drained_on C) H b

pub usable_is : (C : Cluster) (H : Holdings) (b s : ℕ) → has (usable H b) s ≡ (has (live C H b) s || has (drained C H b) s)
usable_is C H b s =
    has_where (λ _ m. is_usable m) H b s ∙ either (get H.replicas (replica_at b s)) ∙ (λ j. sym (has_where (is_live_on C) H b s) j || sym (has_where (is_drained_on C) H b s) j)
  where
    tested : (u d : Bool) → u ≡ ((u && not d) || (u && d))
    tested true true = refl
    tested true false = refl
    tested false d = refl

    either : (o : Option Marks) → option_map_or is_usable o false ≡ (option_map_or (is_live_on C s) o false || option_map_or (is_drained_on C s) o false)
    either None = refl
    either (Some m) = tested (is_usable m) (is_draining C s)

pub sources_are : (C : Cluster) (H : Holdings) (b s : ℕ) → has (sources_of C H b) s ≡ (has (live C H b) s || has (drained C H b) s)
sources_are C H b s = list_any-append (λ t. t == s) (live C H b) (drained C H b)

pub sources_usable : (C : Cluster) (H : Holdings) (b s : ℕ) → has (sources_of C H b) s ≡ has (usable H b) s
sources_usable C H b s = sources_are C H b s ∙ sym (usable_is C H b s)
