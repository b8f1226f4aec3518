-- Up-to-date shards can find their parts for a round, and each part is at its shard's index.
use Rattle.std.specs.Prelude.{◌≡◌, ℕ, zero, suc, ◌+◌, List, [], ◌∷◌, ◌++◌, map, length, Some, option_map, slice_get}
use Rattle.std.specs.List.{All}
use Rattle.std.proofs.Common.{refl, sym, ap, ◌∙◌, arith}
use Rattle.std.proofs.lemmas.List.Elements.{All-nil, All-cons}
use Rattle.bm_base.specs.declared.replica.ReplicaId.{ReplicaId}
use Rattle.bm_base.specs.declared.round.RoundPart.{RoundPart}
use Rattle.bm_base.specs.Machine.State.{Cluster}
use Rattle.bm_shard.specs.ShardView.{Seen}
use Rattle.bm_shard.specs.UpToDate.{next_part}
use Rattle.bm_shards.specs.Whole.{AreIndexed, AreUpToDate, HaveTaken}
use Rattle.bm_shards.specs.RoundWork.{CanFind, HasPart}
use Rattle.bm_shards.specs.RoundChoice.{next_excess, HasExcess}

excess_at : (ps : List RoundPart) (i : ℕ) → option_map (λ (p : RoundPart). p.excess) (slice_get ps i) ≡ slice_get (map (λ (p : RoundPart). p.excess) ps) i
excess_at [] i = refl
excess_at (p ∷ ps) zero = refl
excess_at (p ∷ ps) (suc i) = excess_at ps i

module _ (C : Cluster) where
  -- each shard may be asked for its part in its next round
  pub can_find : (last pend : ℕ) (ss : List (ℕ × Seen)) → AreUpToDate C ss → HaveTaken last pend ss → All (λ (s : ℕ × Seen). CanFind C (last + 1) s.1) ss
  can_find last pend [] up_to_date took = All-nil (λ (s : ℕ × Seen). CanFind C (last + 1) s.1)
  can_find last pend (s ∷ ss) up_to_date took =
      All-cons (λ (s : ℕ × Seen). CanFind C (last + 1) s.1) s ss (record { next = ap (λ x. x + 1) (sym took.0); up_to_date = up_to_date.0 }) (can_find last pend ss up_to_date.1 took.2)

  -- The excess of each shard is at its index.

  abbrev excess_of : ℕ × Seen → List ReplicaId
  excess_of s = (next_part C s.1).excess

  at_index : (before : List (List ReplicaId)) (ss : List (ℕ × Seen)) (s : ℕ × Seen) (i : ℕ) → i ≡ length before → slice_get (before ++ excess_of s ∷ next_excess C ss) i ≡ Some (excess_of s)
  at_index [] ss s zero e = refl
  at_index [] ss s (suc i) e = absurd (omega (arith, e))
  at_index (p ∷ before) ss s zero e = absurd (omega (arith, e))
  at_index (p ∷ before) ss s (suc i) e = at_index before ss s i (omega (arith, e))

  push_back : (before after : List (List ReplicaId)) (p : List ReplicaId) → before ++ p ∷ after ≡ (before ++ p ∷ []) ++ after
  push_back [] after p = refl
  push_back (b ∷ before) after p = ap (λ ps. b ∷ ps) (push_back before after p)

  length_push : (before : List (List ReplicaId)) (p : List ReplicaId) → length (before ++ p ∷ []) ≡ suc (length before)
  length_push [] p = refl
  length_push (b ∷ before) p = ap suc (length_push before p)

  have_parts_from : (shards index : ℕ) (before : List (List ReplicaId)) (all : List RoundPart) (ss : List (ℕ × Seen)) → map (λ (p : RoundPart). p.excess) all ≡ before ++ next_excess C ss
      → index ≡ length before → AreIndexed shards index ss → All (HasPart C all) ss
  have_parts_from shards index before all [] is long h = All-nil (HasPart C all)
  have_parts_from shards index before all (s ∷ ss) is long h =
      All-cons (HasPart C all) s ss
      (excess_at all s.0 ∙ ap (slice_get (map (λ (p : RoundPart). p.excess) all)) h.0 ∙ ap (λ xs. slice_get xs index) is ∙ at_index before ss s index long)
      (have_parts_from shards (suc index) (before ++ excess_of s ∷ []) all ss (is ∙ push_back before (next_excess C ss) (excess_of s)) (ap suc long ∙ sym (length_push before (excess_of s))) h.2)

  pub have_parts : (shards : ℕ) (all : List RoundPart) (ss : List (ℕ × Seen)) → HasExcess C ss all → AreIndexed shards 0 ss → All (HasPart C all) ss
  have_parts shards all ss is h = have_parts_from shards 0 [] all ss is refl h
