-- Shards that change only their capacity keep what they hold, and stay up to date.
use Rattle.std.specs.Prelude.{◌≡◌, ℕ, zero, suc, List, [], ◌∷◌, length}
use Rattle.std.specs.List.{All, AllZip}
use Rattle.std.proofs.Common.{refl, sym, ap, subst, ◌∙◌, get_or}
use Rattle.std.proofs.Math.ListN.{set}
use Rattle.std.proofs.lemmas.List.Elements.{All-nil, All-cons, All-head, All-tail}
use Rattle.bm_base.specs.Words.{get, Cluster, Holdings, replica_at, level}
use Rattle.bm_maps.specs.SlotLists.{IsMember}
use Rattle.bm_parts.specs.Whole.{whole_of, AreOwn}
use Rattle.bm_parts.specs.PlacedLaws.{IsPlaced}
use Rattle.bm_shard.specs.ShardView.{Seen}
use Rattle.bm_shard.specs.UnusedEntries.{HasNoUnused}
use Rattle.bm_shard.specs.UpToDate.{IsUpToDate, IsSameButCapacity}
use Rattle.bm_shards.specs.Whole.{parts_of, held_by, AreIndexed, AreShards, AreUpToDate, HaveTaken}
use Rattle.bm_shards.specs.Answers.{EachBecame}
use Rattle.bm_shards.specs.ShardWork.{IsSame}

-- each shard has one part
pub count_of : (ss : List (ℕ × Seen)) → length (parts_of ss) ≡ length ss
count_of [] = refl
count_of (s ∷ ss) = ap suc (count_of ss)

pub stays_up_to_date : (C : Cluster) (S T : Seen) → IsSameButCapacity S T → IsUpToDate C S → IsUpToDate C T
stays_up_to_date C S T same h =
    let held : T.holdings ≡ S.holdings = ap (λ s. s.holdings) same.rest in
    record {
      levels = λ b. ap (λ m. get m b) (same.levels C h) ∙ h.levels b ∙ ap (λ H. level C H b) (sym held);
      placed = subst (IsPlaced C) (sym held) h.placed;
    }

-- two steps that each change only the capacity, one after the other, change only the capacity
pub same_again : (R S T : Seen) → IsSameButCapacity R S → IsSameButCapacity S T → IsSameButCapacity R T
same_again R S T first next =
    let with_reserved : Seen → Seen = λ s. record s { levels = T.levels; reserved = T.reserved } in
    record {
      rest = next.rest ∙ ap with_reserved first.rest;
      levels = λ C h. next.levels C (stays_up_to_date C R S first h) ∙ first.levels C h;
    }

-- no number has an unused entry afterwards, if the step keeps the entries
pub unused_again : (S T : Seen) → IsSameButCapacity S T → T.reserved.entries ≡ S.reserved.entries → HasNoUnused S → HasNoUnused T
unused_again S T same entries none b unused =
    let held : T.holdings ≡ S.holdings = ap (λ s. s.holdings) same.rest in
    none b (record {
      entry = subst (λ (l : List ℕ). IsMember b l) entries unused.entry;
      unknown = ap (λ (H : Holdings). get H.blocks b) (sym held) ∙ unused.unknown;
      empty = λ s. ap (λ (H : Holdings). get H.replicas (replica_at b s)) (sym held) ∙ unused.empty s;
    })

pub all_same_again : (rs ss ts : List (ℕ × Seen)) → AllZip IsSame rs ss → AllZip IsSame ss ts → AllZip IsSame rs ts
all_same_again [] [] [] first next = tt
all_same_again [] [] (t ∷ ts) first next = absurd next
all_same_again [] (s ∷ ss) ts first next = absurd first
all_same_again (r ∷ rs) [] ts first next = absurd first
all_same_again (r ∷ rs) (s ∷ ss) [] first next = absurd next
all_same_again (r ∷ rs) (s ∷ ss) (t ∷ ts) first next = ((next.0.0 ∙ first.0.0, same_again r.1 s.1 t.1 first.0.1 next.0.1), all_same_again rs ss ts first.1 next.1)

pub all_same : (ss : List (ℕ × Seen)) → AllZip IsSame ss ss
all_same [] = tt
all_same (s ∷ ss) = ((refl, record { rest = refl; levels = λ C h. refl }), all_same ss)

-- if one shard is changed only in its capacity, all still are
pub same_set : (ss ts : List (ℕ × Seen)) (k : ℕ) (d u : ℕ × Seen) → AllZip IsSame ss ts → IsSame (get_or ts k d) u → AllZip IsSame ss (set ts k u)
same_set [] [] k d u each one = tt
same_set [] (r ∷ ts) k d u each one = absurd each
same_set (s ∷ ss) [] k d u each one = absurd each
same_set (s ∷ ss) (r ∷ ts) zero d u each one = ((one.0 ∙ each.0.0, same_again s.1 r.1 u.1 each.0.1 one.1), each.1)
same_set (s ∷ ss) (r ∷ ts) (suc k) d u each one = (each.0, same_set ss ts k d u each.1 one)

-- what each shard has whatever its capacity, each shard still has
pub same_all : (Q : ℕ × Seen → Type 0) → ((s t : ℕ × Seen) → IsSame s t → Q s → Q t) → (ss ts : List (ℕ × Seen)) → AllZip IsSame ss ts → All Q ss → All Q ts
same_all Q one [] [] each h = All-nil Q
same_all Q one [] (t ∷ ts) each h = absurd each
same_all Q one (s ∷ ss) [] each h = absurd each
same_all Q one (s ∷ ss) (t ∷ ts) each h = All-cons Q t ts (one s t each.0 (All-head Q s ss h)) (same_all Q one ss ts each.1 (All-tail Q s ss h))

pub same_parts : (ss ts : List (ℕ × Seen)) → AllZip IsSame ss ts → parts_of ts ≡ parts_of ss
same_parts [] [] each = refl
same_parts [] (t ∷ ts) each = absurd each
same_parts (s ∷ ss) [] each = absurd each
same_parts (s ∷ ss) (t ∷ ts) each = λ j. (ap (λ S. S.holdings) each.0.1.rest) j ∷ same_parts ss ts each.1 j

pub same_length : (ss ts : List (ℕ × Seen)) → AllZip IsSame ss ts → length ts ≡ length ss
same_length [] [] each = refl
same_length [] (t ∷ ts) each = absurd each
same_length (s ∷ ss) [] each = absurd each
same_length (s ∷ ss) (t ∷ ts) each = ap suc (same_length ss ts each.1)

same_indexed : (shards index : ℕ) (ss ts : List (ℕ × Seen)) → AllZip IsSame ss ts → AreIndexed shards index ss → AreIndexed shards index ts
same_indexed shards index [] [] each h = tt
same_indexed shards index [] (t ∷ ts) each h = absurd each
same_indexed shards index (s ∷ ss) [] each h = absurd each
same_indexed shards index (s ∷ ss) (t ∷ ts) each h = (each.0.0 ∙ h.0, ap (λ S. S.part) each.0.1.rest ∙ h.1, same_indexed shards (suc index) ss ts each.1 h.2)

pub same_up_to_date : (C : Cluster) (ss ts : List (ℕ × Seen)) → AllZip IsSame ss ts → AreUpToDate C ss → AreUpToDate C ts
same_up_to_date C [] [] each h = tt
same_up_to_date C [] (t ∷ ts) each h = absurd each
same_up_to_date C (s ∷ ss) [] each h = absurd each
same_up_to_date C (s ∷ ss) (t ∷ ts) each h = (stays_up_to_date C s.1 t.1 each.0.1 h.0, same_up_to_date C ss ts each.1 h.1)

pub same_took : (round pend : ℕ) (ss ts : List (ℕ × Seen)) → AllZip IsSame ss ts → HaveTaken round pend ss → HaveTaken round pend ts
same_took round pend [] [] each h = tt
same_took round pend [] (t ∷ ts) each h = absurd each
same_took round pend (s ∷ ss) [] each h = absurd each
same_took round pend (s ∷ ss) (t ∷ ts) each h = (ap (λ S. S.round) each.0.1.rest ∙ h.0, ap (λ S. S.pend) each.0.1.rest ∙ h.1, same_took round pend ss ts each.1 h.2)

pub same_held : (ss ts : List (ℕ × Seen)) → AllZip IsSame ss ts → held_by ts ≡ held_by ss
same_held ss ts each = ap whole_of (same_parts ss ts each)

pub same_shards : (shards : ℕ) (ss ts : List (ℕ × Seen)) → AllZip IsSame ss ts → AreShards shards ss → AreShards shards ts
same_shards shards ss ts each h = record {
  indexed = same_indexed shards 0 ss ts each h.indexed;
  own = subst (AreOwn shards 0) (sym (same_parts ss ts each)) h.own;
  long = h.long ∙ sym (same_length ss ts each);
  some = h.some;
  few = h.few;
}

pub are_shards : (shards : ℕ) (ss : List (ℕ × Seen)) → AreShards shards ss → AreShards (length ss) ss
are_shards shards ss h = subst (λ n. AreShards n ss) h.long h

pub still_shards : (ss ts : List (ℕ × Seen)) → AllZip IsSame ss ts → AreShards (length ss) ss → AreShards (length ts) ts
still_shards ss ts each h = are_shards (length ss) ts (same_shards (length ss) ss ts each h)

-- a relation to the shards that were taken out is one to the original shards
pub still_taken : {U : Type 0} (R : Seen → U → Type 0) (ss taken : List (ℕ × Seen)) (made : List (ℕ × U)) → taken ≡ ss → EachBecame R taken made → EachBecame R ss made
still_taken R ss taken made from each = subst (λ xs. EachBecame R xs made) from each
