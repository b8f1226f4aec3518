-- After a round that all shards took, they are up to date and hold what the definition gives.
use Rattle.std.specs.Prelude.{◌≡◌, ℕ, suc, ◌+◌, ◌<◌, ◌^◌, List, [], ◌∷◌, map, length, Some, Ok, option_map, slice_get}
use Rattle.std.specs.List.{All, AllZip}
use Rattle.std.proofs.Common.{sym, ap, subst, ◌∙◌}
use Rattle.std.proofs.lemmas.List.Elements.{All-nil, All-cons, All-head, All-tail}
use Rattle.bm_base.specs.declared.round.RoundPart.{RoundPart}
use Rattle.bm_base.specs.declared.round.Chosen.{Chosen}
use Rattle.bm_base.specs.Words.{Cluster, end_round}
use Rattle.bm_base.specs.RoundParts.{holdings_at_choice, round_on_part}
use Rattle.bm_parts.specs.Whole.{EachPart}
use Rattle.bm_parts.proofs.PartChanges.{whole_changes_by_round}
use Rattle.bm_crew.specs.Work.{IsResultOf}
use Rattle.bm_shard.specs.ShardView.{Seen, IsReadyForRound}
use Rattle.bm_shard.specs.UpToDate.{next_part}
use Rattle.bm_shards.specs.Whole.{parts_of, held_by, AreIndexed, AreShards, AreUpToDate, HaveTaken}
use Rattle.bm_shards.specs.Answers.{EachBecame, ShardResult, shard_answered, first_fault}
use Rattle.bm_shards.specs.ShardWork.{IsSame, IsPrepared}
use Rattle.bm_shards.specs.RoundWork.{HasPart, CanCommitRound, HasTakenRound}
use Rattle.bm_shards.proofs.GatheredAnswers.{prepared_same, prepared_ready}
use Rattle.bm_shards.proofs.SameShards.{count_of, are_shards, same_all, same_up_to_date}

module _ (C : Cluster) (chosen : Chosen) where
  -- After the preparation.

  abbrev IsCounted : ℕ × Seen → Type 0
  IsCounted s = s.1.round + 1 < 2 ^ 64

  can_commit_round : (all : List RoundPart) (ss : List (ℕ × Seen)) → All (HasPart C all) ss → AreUpToDate C ss → All IsCounted ss → All (λ (s : ℕ × Seen). IsReadyForRound chosen s.1) ss
      → All (CanCommitRound C all chosen) ss
  can_commit_round all [] has up_to_date few ready = All-nil (CanCommitRound C all chosen)
  can_commit_round all (s ∷ ss) has up_to_date few ready =
      All-cons (CanCommitRound C all chosen) s ss
      (record { up_to_date = up_to_date.0; part = All-head (HasPart C all) s ss has; ready = All-head (λ (s : ℕ × Seen). IsReadyForRound chosen s.1) s ss ready; counted = All-head IsCounted s ss few })
      (can_commit_round all ss (All-tail (HasPart C all) s ss has) up_to_date.1 (All-tail IsCounted s ss few) (All-tail (λ (s : ℕ × Seen). IsReadyForRound chosen s.1) s ss ready))

  -- if no preparation was refused, each shard may take the round
  pub all_ready_for_round : (all : List RoundPart) (ss : List (ℕ × Seen)) (ps : List (ℕ × ShardResult (Unit {0}))) → EachBecame (IsPrepared (IsReadyForRound chosen)) ss ps → All (HasPart C all) ss
      → AreUpToDate C ss → All IsCounted ss → first_fault ps ≡ Ok tt → All (CanCommitRound C all chosen) (map shard_answered ps)
  all_ready_for_round all ss ps each has up_to_date few fine =
      let same = prepared_same (IsReadyForRound chosen) ss ps each in
      can_commit_round all (map shard_answered ps)
      (same_all (HasPart C all) (λ s t one h. ap (λ i. option_map (λ (p : RoundPart). p.excess) (slice_get all i)) one.0 ∙ h ∙ ap (λ S. Some (next_part C S).excess) (sym one.1.rest)) ss (map shard_answered ps) same has)
      (same_up_to_date C ss (map shard_answered ps) same up_to_date)
      (same_all IsCounted (λ s t one h. subst (λ n. n + 1 < 2 ^ 64) (sym (ap (λ S. S.round) one.1.rest)) h) ss (map shard_answered ps) same few) (prepared_ready (IsReadyForRound chosen) ss ps each fine)

  -- After the round, for shards that changed only their capacity before it.

  after_same : (s r t : ℕ × Seen) → IsSame s r → IsResultOf (λ _. HasTakenRound C chosen) r t → IsResultOf (λ _. HasTakenRound C chosen) s t
  after_same s r t same h =
      let is = same.1.rest in (
        h.0 ∙ same.0,
        record {
          holdings = h.1.holdings ∙ (λ j. round_on_part C (is j).pend ((is j).round + 1) (is j).holdings (is j).part.index (is j).part.shards chosen.transfers chosen.deletes);
          up_to_date = h.1.up_to_date;
          part = h.1.part ∙ ap (λ S. S.part) is;
          round = h.1.round ∙ ap (λ S. S.round + 1) is;
          pend = h.1.pend ∙ ap (λ S. S.pend) is;
        },
      )

  pub all_after_same : (ss rs ts : List (ℕ × Seen)) → AllZip IsSame ss rs → EachBecame (HasTakenRound C chosen) rs ts → EachBecame (HasTakenRound C chosen) ss ts
  all_after_same [] [] [] same each = tt
  all_after_same [] [] (t ∷ ts) same each = absurd each
  all_after_same [] (r ∷ rs) ts same each = absurd same
  all_after_same (s ∷ ss) [] ts same each = absurd same
  all_after_same (s ∷ ss) (r ∷ rs) [] same each = absurd each
  all_after_same (s ∷ ss) (r ∷ rs) (t ∷ ts) same each = (after_same s r t same.0 each.0, all_after_same ss rs ts same.1 each.1)

  -- Facts about all shards.

  each_taken : (last pend shards index : ℕ) (ss ts : List (ℕ × Seen)) → EachBecame (HasTakenRound C chosen) ss ts → AreIndexed shards index ss → HaveTaken last pend ss
      → EachPart (λ i P Q. Q ≡ round_on_part C pend (last + 1) P i shards chosen.transfers chosen.deletes) index (parts_of ss) (parts_of ts)
  each_taken last pend shards index [] [] each h took = tt
  each_taken last pend shards index [] (t ∷ ts) each h took = absurd each
  each_taken last pend shards index (s ∷ ss) [] each h took = absurd each
  each_taken last pend shards index (s ∷ ss) (t ∷ ts) each h took = (
    each.0.1.holdings ∙ (λ j. round_on_part C (took.1 j) (took.0 j + 1) s.1.holdings (h.1 j).index (h.1 j).shards chosen.transfers chosen.deletes),
    each_taken last pend shards (suc index) ss ts each.1 h.2 took.2,
  )

  indexed_after : (shards index : ℕ) (ss ts : List (ℕ × Seen)) → EachBecame (HasTakenRound C chosen) ss ts → AreIndexed shards index ss → AreIndexed shards index ts
  indexed_after shards index [] [] each h = tt
  indexed_after shards index [] (t ∷ ts) each h = absurd each
  indexed_after shards index (s ∷ ss) [] each h = absurd each
  indexed_after shards index (s ∷ ss) (t ∷ ts) each h = (each.0.0 ∙ h.0, each.0.1.part ∙ h.1, indexed_after shards (suc index) ss ts each.1 h.2)

  pub up_to_date_after : (ss ts : List (ℕ × Seen)) → EachBecame (HasTakenRound C chosen) ss ts → AreUpToDate C ts
  up_to_date_after [] [] each = tt
  up_to_date_after [] (t ∷ ts) each = absurd each
  up_to_date_after (s ∷ ss) [] each = absurd each
  up_to_date_after (s ∷ ss) (t ∷ ts) each = (each.0.1.up_to_date, up_to_date_after ss ts each.1)

  pub took_after : (last pend : ℕ) (ss ts : List (ℕ × Seen)) → EachBecame (HasTakenRound C chosen) ss ts → HaveTaken last pend ss → HaveTaken (last + 1) pend ts
  took_after last pend [] [] each took = tt
  took_after last pend [] (t ∷ ts) each took = absurd each
  took_after last pend (s ∷ ss) [] each took = absurd each
  took_after last pend (s ∷ ss) (t ∷ ts) each took = (each.0.1.round ∙ ap (λ n. n + 1) took.0, each.0.1.pend ∙ took.1, took_after last pend ss ts each.1 took.2)

  taken_shards : (last pend : ℕ) (ss ts : List (ℕ × Seen)) → EachBecame (HasTakenRound C chosen) ss ts → AreShards (length ss) ss → HaveTaken last pend ss
      → AreShards (length ss) ts × (held_by ts ≡ end_round (last + 1) (holdings_at_choice C pend (last + 1) (held_by ss)) chosen.transfers chosen.deletes)
  taken_shards last pend ss ts each h took =
      let whole =
      whole_changes_by_round C pend (last + 1) chosen.transfers chosen.deletes (length ss) (parts_of ss) (parts_of ts) h.some (sym (count_of ss)) h.own
      (each_taken last pend (length ss) 0 ss ts each h.indexed took) in (
        record { indexed = indexed_after (length ss) 0 ss ts each h.indexed; own = whole.1; long = whole.2 ∙ count_of ts; some = h.some; few = h.few },
        whole.0,
      )

  pub are_after : (last pend : ℕ) (ss ts : List (ℕ × Seen)) → EachBecame (HasTakenRound C chosen) ss ts → AreShards (length ss) ss → HaveTaken last pend ss → AreShards (length ts) ts
  are_after last pend ss ts each h took = are_shards (length ss) ts (taken_shards last pend ss ts each h took).0

  pub held_after : (last pend : ℕ) (ss ts : List (ℕ × Seen)) → EachBecame (HasTakenRound C chosen) ss ts → AreShards (length ss) ss → HaveTaken last pend ss
      → held_by ts ≡ end_round (last + 1) (holdings_at_choice C pend (last + 1) (held_by ss)) chosen.transfers chosen.deletes
  held_after last pend ss ts each h took = (taken_shards last pend ss ts each h took).1

-- the number after each shard's last round fits into 64 bits
pub all_counted : (last pend : ℕ) (ss : List (ℕ × Seen)) → last + 1 < 2 ^ 64 → HaveTaken last pend ss → All (λ (s : ℕ × Seen). s.1.round + 1 < 2 ^ 64) ss
all_counted last pend [] few took = All-nil (λ (s : ℕ × Seen). s.1.round + 1 < 2 ^ 64)
all_counted last pend (s ∷ ss) few took =
    All-cons (λ (s : ℕ × Seen). s.1.round + 1 < 2 ^ 64) s ss (subst (λ n. n + 1 < 2 ^ 64) (sym took.0) few) (all_counted last pend ss few took.2)
