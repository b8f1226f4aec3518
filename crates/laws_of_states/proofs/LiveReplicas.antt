-- A usable replica is drained if its node drains, and live if not; no other replica is either.
use Rattle.std.specs.Prelude.{◌≡◌, ℕ, ◌↔◌, Bool, true, false, not, ◌&&◌, Option, Some, None}
use Rattle.std.specs.Option.{option_map_or}
use Rattle.std.proofs.Common.{refl, sym, ap, ◌∙◌}
use Rattle.std.proofs.lemmas.Bool.{false≢true, not-true}
use Rattle.bm_base.specs.declared.replica.Tag.{Tag}
use Rattle.bm_base.specs.declared.replica.Tag.TheVariants.{Good, Stale, Bad, Stray}
use Rattle.bm_base.specs.declared.replica.Marks.{Marks}
use Rattle.bm_base.specs.Words.{get, Cluster, Holdings, replica_at, has, live, drained, is_usable, is_live_on, is_drained_on, is_draining, is_good}
use Rattle.bm_base.proofs.ListTests.{and_first, and_second}
use Rattle.bm_base.proofs.Membership.{has_where}

parts : (t : Tag) (x : Bool) → (is_good t && not x) ≡ true → (t ≡ Good) × (x ≡ false)
parts Good false e = (refl, refl)
parts Good true e = absurd (false≢true e)
parts Stale x e = absurd (false≢true e)
parts Bad x e = absurd (false≢true e)
parts Stray x e = absurd (false≢true e)

mark_of : (d : Bool) (o : Option Marks) → option_map_or (λ m. is_usable m && d) o false ≡ true → (m : Marks) × (o ≡ Some m) × (m.tag ≡ Good) × (m.excess ≡ false) × (d ≡ true)
mark_of d None e = absurd (false≢true e)
mark_of d (Some m) e = let is = parts m.tag m.excess (and_first (is_usable m) d e) in (m, refl, is.0, is.1, and_second (is_usable m) d e)

of_mark : (d : Bool) (o : Option Marks) (m : Marks) → o ≡ Some m → m.tag ≡ Good → m.excess ≡ false → d ≡ true → option_map_or (λ n. is_usable n && d) o false ≡ true
of_mark d o m found good counts on =
    ap (λ x. option_map_or (λ n. is_usable n && d) x false) found ∙ ap (λ t. (is_good t && not m.excess) && d) good ∙ ap (λ x. not x && d) counts ∙ on

pub live_is : (C : Cluster) (H : Holdings) (b s : ℕ)
    → (has (live C H b) s ≡ true) ↔ ((m : Marks) × (get H.replicas (replica_at b s) ≡ Some m) × (m.tag ≡ Good) × (m.excess ≡ false) × (is_draining C s ≡ false))
live_is C H b s = (
  λ h. let is = mark_of (not (is_draining C s)) (get H.replicas (replica_at b s)) (sym (has_where (is_live_on C) H b s) ∙ h) in (is.0, is.1, is.2, is.3, not-true (is_draining C s) is.4),
  λ h. has_where (is_live_on C) H b s ∙ of_mark (not (is_draining C s)) (get H.replicas (replica_at b s)) h.0 h.1 h.2 h.3 (ap not h.4),
)

pub drained_is : (C : Cluster) (H : Holdings) (b s : ℕ)
    → (has (drained C H b) s ≡ true) ↔ ((m : Marks) × (get H.replicas (replica_at b s) ≡ Some m) × (m.tag ≡ Good) × (m.excess ≡ false) × (is_draining C s ≡ true))
drained_is C H b s = (
  λ h. mark_of (is_draining C s) (get H.replicas (replica_at b s)) (sym (has_where (is_drained_on C) H b s) ∙ h),
  λ h. has_where (is_drained_on C) H b s ∙ of_mark (is_draining C s) (get H.replicas (replica_at b s)) h.0 h.1 h.2 h.3 h.4,
)
