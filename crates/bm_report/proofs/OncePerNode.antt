-- Entering replicas keeps one per block and node at most, and good excess if theirs is good.
use Rattle.std.proofs.Common.{◌≡◌, ℕ, Bool, true, false, cond, not, ◌&&◌, List, [], ◌∷◌, Option, Some, None, is_some, IsSome, refl, sym, ap, ◌∙◌, eq-eqb, inl, inr}
use Rattle.std.specs.Option.{option_and_then}
use Rattle.std.proofs.lemmas.Bool.{cases_Bool, false≢true}
use Rattle.bm_base.specs.declared.replica.ReplicaId.{ReplicaId}
use Rattle.bm_base.specs.declared.replica.Marks.{Marks}
use Rattle.bm_base.specs.declared.replica.BlockInfo.{BlockInfo}
use Rattle.bm_base.specs.Words.{Map, by_number, get, keep, Cluster, replica_at, are_siblings, replaces}
use Rattle.bm_base.proofs.MapLaws.{get-insert, get-keep}
use Rattle.bm_report.specs.declared.types.ReportedSlot.{ReportedSlot}
use Rattle.bm_report.specs.DuringReport.{entered_at, entered_one, entered_all, is_excess_good, IsOncePerNode, IsExcessGood}
use Rattle.bm_base.proofs.Clusters.{siblings_turned, no_sibling_itself}
use Rattle.bm_report.proofs.Maps.{Held, tie, tied}

pub kept_as : (b : Bool) (z : Option Marks) → option_and_then (λ x. cond b (Some x) None) z ≡ cond b z None
kept_as true None = refl
kept_as true (Some x) = refl
kept_as false None = refl
kept_as false (Some x) = refl

-- the replicas after a block was entered
pub get-entered_at : (C : Cluster) (K : Held) (p : ReplicaId) (m : Marks) (q : ReplicaId) → get (entered_at C K p m) q ≡ cond (tie q p) (Some m) (cond (not (replaces C p q)) (get K q) None)
get-entered_at C K p m q =
    get-insert (keep K (λ k _. not (replaces C p k))) p m q
    ∙ ap (cond (tie q p) (Some m)) (get-keep K (λ k _. not (replaces C p k)) q ∙ kept_as (not (replaces C p q)) (get K q))

module _ (C : Cluster) (K : Held) (p : ReplicaId) (m : Marks) where
  -- any other replica was there before and is not replaced
  was_kept : (q : ReplicaId) → tie q p ≡ false → IsSome (get (entered_at C K p m) q) → IsSome (get K q) × (replaces C p q ≡ false)
  was_kept q apart some = by (replaces C p q) refl (sym (ap is_some (get-entered_at C K p m q ∙ ap (λ t. cond t (Some m) (cond (not (replaces C p q)) (get K q) None)) apart)) ∙ some)
    where
      by : (r : Bool) → replaces C p q ≡ r → is_some (cond (not r) (get K q) None) ≡ true → IsSome (get K q) × (replaces C p q ≡ false)
      by true e h = absurd (false≢true h)
      by false e h = (h, e)

  not_replaced : (q : ReplicaId) → replaces C p q ≡ false → q.block ≡ p.block → are_siblings C p.storage q.storage ≡ false
  unfolding replaces
  not_replaced q e same = sym (ap (λ b. b && are_siblings C p.storage q.storage) (eq-eqb q.block p.block same)) ∙ e

  pub once-entered_at : IsOncePerNode C K → IsOncePerNode C (entered_at C K p m)
  once-entered_at once x y hx hy same =
      elim (cases_Bool (tie x p)) [
        | inl x_is ↦
            elim (cases_Bool (tie y p)) [
              | inl y_is ↦ (λ i. are_siblings C (tied x p x_is i).storage (tied y p y_is i).storage) ∙ no_sibling_itself C p.storage
              | inr y_not ↦ ap (λ (k : ReplicaId). are_siblings C k.storage y.storage) (tied x p x_is) ∙ not_replaced y (was_kept y y_not hy).1 (sym same ∙ ap (λ (k : ReplicaId). k.block) (tied x p x_is))
            ]
        | inr x_not ↦
            elim (cases_Bool (tie y p)) [
              | inl y_is ↦
                  ap (λ (k : ReplicaId). are_siblings C x.storage k.storage) (tied y p y_is) ∙ siblings_turned C x.storage p.storage
                  ∙ not_replaced x (was_kept x x_not hx).1 (same ∙ ap (λ (k : ReplicaId). k.block) (tied y p y_is))
              | inr y_not ↦ once x y (was_kept x x_not hx).0 (was_kept y y_not hy).0 same
            ]
      ]

  pub excess_good-entered_at : is_excess_good m ≡ true → IsExcessGood K → IsExcessGood (entered_at C K p m)
  excess_good-entered_at own good q n is = by (tie q p) (replaces C p q) (sym (get-entered_at C K p m q) ∙ is)
    where
      by : (t r : Bool) → cond t (Some m) (cond (not r) (get K q) None) ≡ Some n → is_excess_good n ≡ true
      by true r e = let same : m ≡ n = cc in sym (ap is_excess_good same) ∙ own
      by false true e = cc
      by false false e = good q n e

pub once-entered_one : (C : Cluster) (B : Map by_number BlockInfo) (s : ℕ) (n : ReportedSlot) (K : Held) → IsOncePerNode C K → IsOncePerNode C (entered_one C B s n K)
unfolding entered_one
once-entered_one C B s n K once = once-entered_at C K (replica_at n.id s) _ once

pub once-entered_all : (C : Cluster) (B : Map by_number BlockInfo) (s : ℕ) (ns : List ReportedSlot) (K : Held) → IsOncePerNode C K → IsOncePerNode C (entered_all C B s ns K)
once-entered_all C B s [] K once = once
once-entered_all C B s (n ∷ ns) K once = once-entered_all C B s ns (entered_one C B s n K) (once-entered_one C B s n K once)
