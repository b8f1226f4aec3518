-- No node is on two racks, and none is two nodes.
use Rattle.std.proofs.Common.{◌≡◌, ◌∙◌, ℕ, ◌<◌, Bool, true, false, List, [], ◌∷◌, Option, Some, None, refl, sym, ap, subst, map, filter, arith}
use Rattle.std.specs.Prelude.{◌==◌, ◌&&◌, ◌||◌, zero, suc, option_map, slice_get}
use Rattle.std.specs.List.{list_any}
use Rattle.std.proofs.lemmas.Bool.{eqb-true, false≢true}
use Rattle.std.proofs.lemmas.Option.{slice_get-map}
use Rattle.bm_base.specs.Words.{Cluster, has, keys}
use Rattle.bm_base.proofs.Clusters.{eqb_turned}
use Rattle.bm_base.proofs.ForEach.{Each}
use Rattle.bm_base.proofs.ListTests.{and_first, any_agree, has_filter}
use Rattle.cluster_lost.specs.Deaths.{is_among}
use Rattle.cluster_lost.proofs.RowLemmas.{some_mapped}
use Rattle.cluster_lost.proofs.Sums.{Increases, keys_rise}
use Rattle.cluster_losses.specs.FailureDomains.{AreRacks, node_domain, nodes_on, rack_domain, rack_number}
use Rattle.cluster_losses.specs.RowIndex.{AreApart}
use Rattle.cluster_losses.specs.declared.failure_domains.FailureDomain.{FailureDomain}
use Rattle.cluster_losses.proofs.Missing.{increases_from}

each_at : (P : ℕ → Type 0) (xs : List ℕ) (k x : ℕ) → Each P xs → slice_get xs k ≡ Some x → P x
each_at P [] k x h is = absurd (none_some is)
  where
    none_some : None ≡ Some x → ⊥
    none_some e = cc
each_at P (y ∷ xs) zero x h is = let same : y ≡ x = (cc) in subst P same h.0
each_at P (y ∷ xs) (suc k) x h is = each_at P xs k x h.1 is

once_increasing : (xs : List ℕ) (j k x : ℕ) → Increases xs → slice_get xs j ≡ Some x → slice_get xs k ≡ Some x → j ≡ k
once_increasing [] j k x up is also = absurd (none_some is)
  where
    none_some : None ≡ Some x → ⊥
    none_some e = cc
once_increasing (y ∷ xs) zero zero x up is also = refl
once_increasing (y ∷ xs) zero (suc k) x up is also = let same : y ≡ x = (cc) in absurd (omega (arith, same, each_at (λ b. y < b) xs k x up.0 also))
once_increasing (y ∷ xs) (suc j) zero x up is also = let same : y ≡ x = (cc) in absurd (omega (arith, same, each_at (λ b. y < b) xs j x up.0 is))
once_increasing (y ∷ xs) (suc j) (suc k) x up is also = ap suc (once_increasing xs j k x up.1 is also)

-- domains that are made of ascending numbers, of which each node has one
apart_by : (make : ℕ → FailureDomain) (number : ℕ → ℕ) → ((r n : ℕ) → is_among (make r).nodes n ≡ true → number n ≡ r) → (rs : List ℕ) → Increases rs → AreApart (map make rs)
apart_by make number own rs up j k d e at_j at_k n in_d in_e =
    let one = some_mapped make (slice_get rs j) d (sym (slice_get-map make rs j) ∙ at_j) in
    let other = some_mapped make (slice_get rs k) e (sym (slice_get-map make rs k) ∙ at_k) in
    let first : number n ≡ one.0 = own one.0 n (ap (λ (f : FailureDomain). is_among f.nodes n) one.2 ∙ in_d) in
    let second : number n ≡ other.0 = own other.0 n (ap (λ (f : FailureDomain). is_among f.nodes n) other.2 ∙ in_e) in
    once_increasing rs j k one.0 up one.1 (other.1 ∙ ap Some (sym second ∙ first))

on_rack : (C : Cluster) (r n : ℕ) → is_among (nodes_on C r) n ≡ true → rack_number C n ≡ r
on_rack C r n h =
    eqb-true (rack_number C n) r
    (and_first (rack_number C n == r) (has (keys C.nodes) n) (sym (any_agree (λ m. n == m) (λ m. m == n) (λ m. eqb_turned n m) (nodes_on C r) ∙ has_filter (λ m. rack_number C m == r) (keys C.nodes) n) ∙ h))

pub racks_apart : (C : Cluster) (domains : List FailureDomain) → AreRacks C domains → AreApart domains
racks_apart C domains are = subst AreApart (sym are.is) (apart_by (rack_domain C) (rack_number C) (on_rack C) are.racks (increases_from are.racks are.numbers.ascending))

itself : (r n : ℕ) → is_among (node_domain r).nodes n ≡ true → n ≡ r
itself r n h = by (n == r) refl h
  where
    by : (b : Bool) → (n == r) ≡ b → (b || false) ≡ true → n ≡ r
    by true is h = eqb-true n r is
    by false is h = absurd (false≢true h)

pub nodes_apart : (C : Cluster) (domains : List FailureDomain) → domains ≡ map node_domain (keys C.nodes) → AreApart domains
nodes_apart C domains are = subst AreApart (sym are) (apart_by node_domain (λ n. n) itself (keys C.nodes) (keys_rise C.nodes))
