-- The blocks by index are the hash table's keys, and each block with a transfer is one of them.
use Rattle.std.proofs.Common.{◌≡◌, ℕ, Bool, true, false, cond, ◌||◌, List, [], ◌∷◌, map, Option, Some, None, is_some, refl, sym, ap, ◌∙◌, nat_eq}
use Rattle.std.specs.Prelude.{◌==◌, IsSome, slice_get, option_map}
use Rattle.std.specs.Option.{option_map_or}
use Rattle.std.specs.Ordering.{nat_cmp}
use Rattle.std.specs.FinMap.{find}
use Rattle.std.specs.Map.{lookup, keys_of}
use Rattle.std.proofs.lemmas.Bool.{false≢true}
use Rattle.std.proofs.lemmas.Option.{slice_get-map}
use Rattle.bm_base.specs.declared.replica.ReplicaId.{ReplicaId}
use Rattle.bm_base.specs.Words.{get, has}
use Rattle.bm_base.proofs.Clusters.{eqb_turned}
use Rattle.bm_pending.specs.Inside.{PendingTargets, map_of, capacities_of}
use Rattle.bm_pending.specs.PendingMap.{PendingMap, blocks_in}
use Rattle.bm_pending.proofs.TargetViews.{get-map_of}

-- the view of the indices
pub places-seen : (es : List (ℕ × PendingTargets)) → map (λ (e : ℕ × ℕ). e.0) (capacities_of es) ≡ keys_of es
places-seen [] = refl
places-seen (e ∷ es) = ap (λ ks. e.0 ∷ ks) (places-seen es)

has-keys : (es : List (ℕ × PendingTargets)) (b : ℕ) → has (keys_of es) b ≡ is_some (lookup (nat_eq b) es)
has-keys [] b = refl
has-keys (e ∷ es) b = ap (λ t. t || has (keys_of es) b) (eqb_turned e.0 b) ∙ by (b == e.0) (has-keys es b)
  where
    by : (t : Bool) → has (keys_of es) b ≡ is_some (lookup (nat_eq b) es) → (t || has (keys_of es) b) ≡ is_some (cond t (Some e.1) (lookup (nat_eq b) es))
    by true rest = refl
    by false rest = rest

-- a block with a transfer has an index
pub index-had : (es : List (ℕ × PendingTargets)) (q : ReplicaId) → IsSome (get (map_of es) q) → has (keys_of es) q.block ≡ true
index-had es q some = has-keys es q.block ∙ by (lookup (nat_eq q.block) es) (sym (ap is_some (get-map_of es q)) ∙ some)
  where
    by : (o : Option PendingTargets) → is_some (find nat_cmp q.storage (option_map_or (λ (v : PendingTargets). v.items) o [])) ≡ true → is_some o ≡ true
    by None e = absurd (false≢true e)
    by (Some v) e = refl

-- the blocks in the order of their indices are the keys
pub keys-seen : (es : List (ℕ × PendingTargets)) (p : PendingMap) → record { map = map_of es; capacities = capacities_of es } ≡ p → keys_of es ≡ blocks_in p
keys-seen es p view = sym (places-seen es) ∙ ap (λ (p : PendingMap). blocks_in p) view

-- the block at an index is the key at this index
pub index-seen : (es : List (ℕ × PendingTargets)) (p : PendingMap) → record { map = map_of es; capacities = capacities_of es } ≡ p → (o : Option (ℕ × PendingTargets)) (i : ℕ) → o ≡ slice_get es i
    → option_map (λ (e : ℕ × PendingTargets). e.0) o ≡ slice_get (blocks_in p) i
index-seen es p view o i e = ap (option_map (λ (e : ℕ × PendingTargets). e.0)) e ∙ sym (slice_get-map (λ (e : ℕ × PendingTargets). e.0) es i) ∙ ap (λ ks. slice_get ks i) (keys-seen es p view)
