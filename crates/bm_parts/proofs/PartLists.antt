-- The wishes and deletes of a part are those of the whole that are of the part's blocks.
use Rattle.std.proofs.Common.{◌≡◌, ℕ, ◌+◌, Bool, true, false, cond, ◌&&◌, List, [], ◌∷◌, map, filter, Option, Some, None, refl, sym, ap, ◌∙◌}
use Rattle.std.specs.Prelude.{◌==◌, if◌then◌else◌, nat_lt, option_and_then, filter_map, length, ◌-◌}
use Rattle.bm_base.specs.declared.replica.ReplicaId.{ReplicaId}
use Rattle.bm_base.specs.declared.replica.Marks.{Marks}
use Rattle.bm_base.specs.declared.replica.BlockInfo.{BlockInfo}
use Rattle.bm_base.specs.declared.replica.Level.{Level}
use Rattle.bm_base.specs.declared.replica.Level.TheVariants.{Highest, VeryUnderReplicated, UnderReplicated, BadlyDistributed, NoUsableReplica}
use Rattle.bm_base.specs.declared.commands.Delete.{Delete}
use Rattle.bm_base.specs.declared.round.Wish.{Wish}
use Rattle.bm_base.specs.Words.{entries, keys, Cluster, Holdings, is_at, requested_count, is_deletable, deletable_on}
use Rattle.bm_base.specs.Shards.{cut}
use Rattle.bm_base.specs.RoundParts.{wish_of, wish_at, wishes_by_block, deletable}
use Rattle.bm_base.proofs.SortedParts.{wish_block, filter_flat_map}
use Rattle.bm_parts.proofs.Parts.{own}
use Rattle.bm_parts.proofs.Filters.{filter_swap, map_filter}
use Rattle.bm_parts.proofs.CutParts.{keys_cut, known_cut, live_cut, drained_cut, storages_cut, targets_cut, level_cut, replicas_cut, deletable_cut}

-- Wishes of a part.

counted_cut : (index shards : ℕ) (C : Cluster) (H : Holdings) (urgency : Level) (repl b : ℕ) → own index shards b ≡ true → requested_count C (cut H index shards) urgency repl b ≡ requested_count C H urgency repl b
counted_cut index shards C H Highest repl b h = λ j. repl - (length (live_cut index shards C H b h j) + length (targets_cut index shards H b h j))
counted_cut index shards C H VeryUnderReplicated repl b h = λ j. repl - (length (live_cut index shards C H b h j) + length (targets_cut index shards H b h j))
counted_cut index shards C H UnderReplicated repl b h = λ j. repl - (length (live_cut index shards C H b h j) + length (targets_cut index shards H b h j))
counted_cut index shards C H BadlyDistributed repl b h = λ j. if length (targets_cut index shards H b h j) == 0 then 1 else 0
counted_cut index shards C H NoUsableReplica repl b h = refl

wish_of_cut : (index shards : ℕ) (C : Cluster) (H : Holdings) (urgency : Level) (b : ℕ) (i : BlockInfo) → own index shards b ≡ true → wish_of C (cut H index shards) urgency b i ≡ wish_of C H urgency b i
wish_of_cut index shards C H urgency b i h = λ j. record {
  level = urgency;
  block = b;
  stamp = i.stamp;
  count = counted_cut index shards C H urgency i.repl b h j;
  live = live_cut index shards C H b h j;
  drained = drained_cut index shards C H b h j;
  pairs = storages_cut index shards (λ _ _. true) H b h j;
  pending = targets_cut index shards H b h j;
}

wish_at_cut : (index shards : ℕ) (C : Cluster) (H : Holdings) (urgency : Level) (b : ℕ) → own index shards b ≡ true → wish_at C (cut H index shards) urgency b ≡ wish_at C H urgency b
unfolding wish_at
wish_at_cut index shards C H urgency b h =
    λ j. if is_at urgency (level_cut index shards C H b h j)
    then option_and_then (λ i. if nat_lt 0 (counted_cut index shards C H urgency i.repl b h j) then Some (wish_of_cut index shards C H urgency b i h j) else None) (known_cut index shards H b h j)
    else None

-- Results for the keys that pass, if each result passes exactly if its key does.
module _ {X Y : Type 0} (p : X → Bool) (q : Y → Bool) (f g : X → Option Y) (inside : (x : X) → p x ≡ true → g x ≡ f x) (same : (x : X) (y : Y) → f x ≡ Some y → q y ≡ p x) where
  of_passing : (xs : List X) → filter_map g (filter p xs) ≡ filter q (filter_map f xs)
  of_passing [] = refl
  of_passing (x ∷ xs) =
      (elim (p x) as (λ b. p x ≡ b → filter_map g (cond b (x ∷ filter p xs) (filter p xs)) ≡ filter q (filter_map f (x ∷ xs))) [
        | true ↦ λ t. at_some (f x) refl t (of_passing xs)
        | false ↦ λ t. at_none (f x) refl t (of_passing xs)
      ]) refl
    where
      at_some : (o : Option Y) → f x ≡ o → p x ≡ true → filter_map g (filter p xs) ≡ filter q (filter_map f xs) → filter_map g (x ∷ filter p xs) ≡ filter q (filter_map f (x ∷ xs))
      at_some None e t rest = rw (inside x t ∙ e, e) rest
      at_some (Some y) e t rest = rw (inside x t ∙ e, e, same x y e ∙ t) (ap (λ ys. y ∷ ys) rest)

      at_none : (o : Option Y) → f x ≡ o → p x ≡ false → filter_map g (filter p xs) ≡ filter q (filter_map f xs) → filter_map g (filter p xs) ≡ filter q (filter_map f (x ∷ xs))
      at_none None e t rest = rw e rest
      at_none (Some y) e t rest = rw (e, same x y e ∙ t) rest

pub wishes_cut : (index shards : ℕ) (C : Cluster) (H : Holdings) → wishes_by_block C (cut H index shards) ≡ filter (λ w. own index shards w.block) (wishes_by_block C H)
unfolding wishes_by_block
wishes_cut index shards C H =
    filter_flat_map (λ (w : Wish). own index shards w.block) (λ urgency. filter_map (wish_at C H urgency) (keys H.blocks)) (λ urgency. filter_map (wish_at C (cut H index shards) urgency) (keys (cut H index shards).blocks))
    (λ urgency. ap (filter_map (wish_at C (cut H index shards) urgency)) (keys_cut index shards H)
    ∙ of_passing (own index shards) (λ (w : Wish). own index shards w.block) (wish_at C H urgency) (wish_at C (cut H index shards) urgency) (wish_at_cut index shards C H urgency)
    (λ b w e. ap (own index shards) (wish_block C H urgency b w e)) (keys H.blocks))
    (Highest ∷ VeryUnderReplicated ∷ UnderReplicated ∷ BadlyDistributed ∷ [])

-- Deletes of a part.

and_same : (a b c : Bool) → b ≡ c → (a && b) ≡ (a && c)
and_same a b c e = ap (λ t. a && t) e

deletable_on_cut : (index shards : ℕ) (C : Cluster) (H : Holdings) (s : ℕ) → deletable_on C (cut H index shards) s ≡ filter (λ d. own index shards d.block) (deletable_on C H s)
unfolding deletable_on
deletable_on_cut index shards C H s =
    let made : ReplicaId × Marks → Delete = λ e. record { storage = s; block = e.0.block } in
    ap (λ (es : List (ReplicaId × Marks)). map made (filter (λ e. (e.0.storage == s) && is_deletable C (cut H index shards) e.0 e.1) es)) (replicas_cut index shards H)
    ∙ ap (map made)
    (filter_swap (λ (e : ReplicaId × Marks). own index shards e.0.block) (λ e. (e.0.storage == s) && is_deletable C (cut H index shards) e.0 e.1) (λ e. (e.0.storage == s) && is_deletable C H e.0 e.1)
    (λ e t. and_same (e.0.storage == s) _ _ (deletable_cut index shards C H e.0 e.1 t)) (entries H.replicas))
    ∙ sym (map_filter made (λ (d : Delete). own index shards d.block) (filter (λ e. (e.0.storage == s) && is_deletable C H e.0 e.1) (entries H.replicas)))

pub deletes_cut : (index shards : ℕ) (C : Cluster) (H : Holdings) → deletable C (cut H index shards) ≡ filter (λ d. own index shards d.block) (deletable C H)
unfolding deletable
deletes_cut index shards C H = filter_flat_map (λ (d : Delete). own index shards d.block) (deletable_on C H) (deletable_on C (cut H index shards)) (deletable_on_cut index shards C H) (keys C.storages)
