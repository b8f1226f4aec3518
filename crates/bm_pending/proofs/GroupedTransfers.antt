-- The map's transfers of a block are those to the block's targets, in the same order.
use Rattle.std.specs.Prelude.{◌≡◌, ◌≢◌, ℕ, Bool, true, false, cond, ◌==◌, List, [], ◌∷◌, length, map, filter, Option, None, Some, option_and_then, T}
use Rattle.std.specs.Ordering.{nat_cmp, ordering_then, is_lt}
use Rattle.std.specs.Cmp.{tied_itself, nat_cmp_total}
use Rattle.std.specs.FinMap.{find, is_sorted}
use Rattle.std.specs.FinMap.Entries.{below_all}
use Rattle.std.proofs.Common.{refl, sym, ap, subst, ◌∙◌, eqb-true}
use Rattle.std.proofs.lemmas.List.{length-map, nil_from_length}
use Rattle.bm_base.specs.Maps.Conjunction.{both, first, second}
use Rattle.bm_base.specs.declared.replica.ReplicaId.{ReplicaId}
use Rattle.bm_base.specs.Words.{Map, entries, get, keep, by_replica, replica_at, replica_cmp}
use Rattle.bm_base.proofs.MapLaws.{same_map, get-keep, entries-keep}
use Rattle.bm_base.proofs.Ties.{number_tie, replica_tie}
use Rattle.bm_pending.specs.PendingMap.{targets_of}
use Rattle.bm_pending.specs.Inside.{PendingTargets, map_of, capacities_of, targets_at}
use Rattle.bm_pending.proofs.TargetViews.{get-map_of, laid}

abbrev pub transfers_to : ℕ → List (ℕ × ℕ) → List (ReplicaId × ℕ)
transfers_to b ts = map (λ t. (replica_at b t.0, t.1)) ts

nothing : (t : Bool) → ◌≡◌ {A = Option ℕ} None (cond t None None)
nothing true = refl
nothing false = refl

pub find-transfers_to : (b : ℕ) (ts : List (ℕ × ℕ)) (q : ReplicaId) → find replica_cmp q (transfers_to b ts) ≡ cond (q.block == b) (find nat_cmp q.storage ts) None
find-transfers_to b [] q = nothing (q.block == b)
find-transfers_to b (t ∷ ts) q =
    (λ j. cond (replica_tie q (replica_at b t.0) j) (Some t.1) (find-transfers_to b ts q j))
    ∙ laid (q.block == b) (q.storage == t.0) t.1 (find nat_cmp q.storage ts) None
    ∙ ap (λ s. cond (q.block == b) (cond s (Some t.1) (find nat_cmp q.storage ts)) None) (sym (number_tie q.storage t.0))

below : (b x : ℕ) (ts : List (ℕ × ℕ)) → T (below_all nat_cmp x ts) → T (below_all replica_cmp (replica_at b x) (transfers_to b ts))
below b x [] h = tt
below b x (t ∷ ts) h = both _ _ (subst (λ r. T (is_lt (ordering_then r (nat_cmp x t.0)))) (sym (tied_itself nat_cmp_total b)) (first _ _ h)) (below b x ts (second _ _ h))

pub is_sorted-transfers_to : (b : ℕ) (ts : List (ℕ × ℕ)) → T (is_sorted nat_cmp ts) → T (is_sorted replica_cmp (transfers_to b ts))
is_sorted-transfers_to b [] h = tt
is_sorted-transfers_to b (t ∷ ts) h = both _ _ (below b t.0 ts (first _ _ h)) (is_sorted-transfers_to b ts (second _ _ h))

passes : (t : Bool) (v w : Option ℕ) → (t ≡ true → v ≡ w) → cond t v None ≡ option_and_then (λ x. cond t (Some x) None) w
passes true v None e = e refl
passes true v (Some x) e = e refl
passes false v None e = refl
passes false v (Some x) e = refl

module _ (es : List (ℕ × PendingTargets)) (b : ℕ) (rise : (q : ℕ) → T (is_sorted nat_cmp (targets_at es q))) where
  of_block : Map by_replica ℕ
  of_block = record { list = transfers_to b (targets_at es b); sorted = is_sorted-transfers_to b (targets_at es b) (rise b) }

  abbrev at_block : ReplicaId → ℕ → Bool
  at_block q x = q.block == b

  of_block-keep : of_block ≡ keep (map_of es) at_block
  unfolding of_block get
  of_block-keep =
      same_map of_block (keep (map_of es) at_block) (λ q.
      find-transfers_to b (targets_at es b) q
      ∙ passes (q.block == b) (find nat_cmp q.storage (targets_at es b)) (get (map_of es) q) (λ e. ap (λ k. find nat_cmp q.storage (targets_at es k)) (sym (eqb-true q.block b e)) ∙ sym (get-map_of es q))
      ∙ sym (get-keep (map_of es) at_block q))

  pub block-entries : filter (λ e. e.0.block == b) (entries (map_of es)) ≡ transfers_to b (targets_at es b)
  unfolding of_block entries
  block-entries = sym (ap entries of_block-keep ∙ entries-keep by_replica (map_of es) at_block)

storages : (b : ℕ) (ts : List (ℕ × ℕ)) → map (λ (e : ReplicaId × ℕ). e.0.storage) (transfers_to b ts) ≡ map (λ t. t.0) ts
storages b [] = refl
storages b (t ∷ ts) = ap (λ xs. t.0 ∷ xs) (storages b ts)

-- the targets of a block, as contracts see them
pub targets-seen : (es : List (ℕ × PendingTargets)) (b : ℕ) → ((q : ℕ) → T (is_sorted nat_cmp (targets_at es q))) → targets_of (record { map = map_of es; capacities = capacities_of es }) b ≡ map (λ t. t.0) (targets_at es b)
targets-seen es b rise = ap (map (λ (e : ReplicaId × ℕ). e.0.storage)) (block-entries es b rise) ∙ storages b (targets_at es b)

module _ (es : List (ℕ × PendingTargets)) (b : ℕ) (rise : (q : ℕ) → T (is_sorted nat_cmp (targets_at es q))) where
  pub count-seen : length (targets_of (record { map = map_of es; capacities = capacities_of es }) b) ≡ length (targets_at es b)
  count-seen = ap length (targets-seen es b rise) ∙ length-map (targets_at es b) (λ (t : ℕ × ℕ). t.0)

  pub none-seen : targets_of (record { map = map_of es; capacities = capacities_of es }) b ≡ [] → targets_at es b ≡ []
  none-seen none = nil_from_length (targets_at es b) (sym count-seen ∙ ap length none)

  pub some-seen : targets_of (record { map = map_of es; capacities = capacities_of es }) b ≢ [] → targets_at es b ≢ []
  some-seen some none = some (nil_from_length (targets_of (record { map = map_of es; capacities = capacities_of es }) b) (count-seen ∙ ap length none))
