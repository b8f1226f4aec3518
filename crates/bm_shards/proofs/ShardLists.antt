-- After an event that all shards took, they together hold what the definition gives.
use Rattle.std.specs.Prelude.{◌≡◌, ℕ, suc, ◌+◌, ◌≤◌, List, [], ◌∷◌, map, length, Ok}
use Rattle.std.specs.List.{All}
use Rattle.std.proofs.Common.{refl, sym, ap, subst, ◌∙◌, arith}
use Rattle.std.proofs.lemmas.List.Elements.{All-nil, All-cons, All-head, All-tail}
use Rattle.bm_base.specs.declared.event.Event.{Event}
use Rattle.bm_base.specs.declared.event.Done.{Done}
use Rattle.bm_base.specs.Words.{Cluster, Holdings, change_cluster, change_holdings, done}
use Rattle.bm_parts.specs.Parts.{change_part}
use Rattle.bm_parts.specs.Whole.{EachPart, done_of_all}
use Rattle.bm_parts.proofs.PartChanges.{whole_changes_by_event, done_adds_up}
use Rattle.bm_shard.specs.ShardView.{Seen, IsReadyFor}
use Rattle.bm_shards.specs.ShardWork.{IsPrepared, CanCommit, IsCommitted}
use Rattle.bm_shards.specs.Answers.{EachBecame, ShardResult, shard_answered, first_fault, done_of, IsFew}
use Rattle.bm_shards.specs.Whole.{parts_of, held_by, AreIndexed, AreShards, AreUpToDate, HaveTaken}
use Rattle.bm_shards.specs.declared.answers.Answered.{Answered}
use Rattle.bm_shards.proofs.GatheredAnswers.{prepared_same, prepared_ready}
use Rattle.bm_shards.proofs.SameShards.{count_of, are_shards, same_up_to_date}

module _ (C : Cluster) (e : Event) where
  -- After the preparation.

  can_commit : (ss : List (ℕ × Seen)) → AreUpToDate C ss → All (λ (s : ℕ × Seen). IsReadyFor e s.1) ss → All (λ (s : ℕ × Seen). CanCommit C e s.1) ss
  can_commit [] up_to_date ready = All-nil (λ (s : ℕ × Seen). CanCommit C e s.1)
  can_commit (s ∷ ss) up_to_date ready =
      All-cons (λ (s : ℕ × Seen). CanCommit C e s.1) s ss (record { up_to_date = up_to_date.0; ready = All-head (λ (s : ℕ × Seen). IsReadyFor e s.1) s ss ready })
      (can_commit ss up_to_date.1 (All-tail (λ (s : ℕ × Seen). IsReadyFor e s.1) s ss ready))

  -- if no preparation was refused, each shard may be changed
  pub all_ready : (ss : List (ℕ × Seen)) (ps : List (ℕ × ShardResult (Unit {0}))) → EachBecame (IsPrepared (IsReadyFor e)) ss ps → AreUpToDate C ss → first_fault ps ≡ Ok tt
      → All (λ (s : ℕ × Seen). CanCommit C e s.1) (map shard_answered ps)
  all_ready ss ps each up_to_date fine =
      can_commit (map shard_answered ps) (same_up_to_date C ss (map shard_answered ps) (prepared_same (IsReadyFor e) ss ps each) up_to_date) (prepared_ready (IsReadyFor e) ss ps each fine)

  -- After the event.

  each_changed : (shards index : ℕ) (ss : List (ℕ × Seen)) (cs : List (ℕ × Answered Done)) → EachBecame (IsCommitted C e) ss cs → AreIndexed shards index ss
      → EachPart (λ i P Q. Q ≡ change_part C P i shards e) index (parts_of ss) (parts_of (map shard_answered cs))
  each_changed shards index [] [] each h = tt
  each_changed shards index [] (c ∷ cs) each h = absurd each
  each_changed shards index (s ∷ ss) [] each h = absurd each
  each_changed shards index (s ∷ ss) (c ∷ cs) each h =
      (each.0.1.holdings ∙ ap (λ p. change_part C s.1.holdings p.index p.shards e) h.1, each_changed shards (suc index) ss cs each.1 h.2)

  indexed_again : (shards index : ℕ) (ss : List (ℕ × Seen)) (cs : List (ℕ × Answered Done)) → EachBecame (IsCommitted C e) ss cs → AreIndexed shards index ss → AreIndexed shards index (map shard_answered cs)
  indexed_again shards index [] [] each h = tt
  indexed_again shards index [] (c ∷ cs) each h = absurd each
  indexed_again shards index (s ∷ ss) [] each h = absurd each
  indexed_again shards index (s ∷ ss) (c ∷ cs) each h = (each.0.0 ∙ h.0, each.0.1.part ∙ h.1, indexed_again shards (suc index) ss cs each.1 h.2)

  pub changed_up_to_date : (ss : List (ℕ × Seen)) (cs : List (ℕ × Answered Done)) → EachBecame (IsCommitted C e) ss cs → AreUpToDate (change_cluster C e) (map shard_answered cs)
  changed_up_to_date [] [] each = tt
  changed_up_to_date [] (c ∷ cs) each = absurd each
  changed_up_to_date (s ∷ ss) [] each = absurd each
  changed_up_to_date (s ∷ ss) (c ∷ cs) each = (each.0.1.up_to_date, changed_up_to_date ss cs each.1)

  pub took_again : (round pend : ℕ) (ss : List (ℕ × Seen)) (cs : List (ℕ × Answered Done)) → EachBecame (IsCommitted C e) ss cs → HaveTaken round pend ss → HaveTaken round pend (map shard_answered cs)
  took_again round pend [] [] each h = tt
  took_again round pend [] (c ∷ cs) each h = absurd each
  took_again round pend (s ∷ ss) [] each h = absurd each
  took_again round pend (s ∷ ss) (c ∷ cs) each h = (each.0.1.round ∙ h.0, each.0.1.pend ∙ h.1, took_again round pend ss cs each.1 h.2)

  done_is : (ss : List (ℕ × Seen)) (cs : List (ℕ × Answered Done)) → EachBecame (IsCommitted C e) ss cs → done_of cs ≡ done_of_all (parts_of ss) (parts_of (map shard_answered cs))
  done_is [] [] each = refl
  done_is [] (c ∷ cs) each = absurd each
  done_is (s ∷ ss) [] each = absurd each
  done_is (s ∷ ss) (c ∷ cs) each = λ j. record { added = (each.0.1.done j).added + (done_is ss cs each.1 j).added; removed = (each.0.1.done j).removed + (done_is ss cs each.1 j).removed }

  pub all_few : (ss : List (ℕ × Seen)) (cs : List (ℕ × Answered Done)) → EachBecame (IsCommitted C e) ss cs → All IsFew cs
  all_few [] [] each = All-nil IsFew
  all_few [] (c ∷ cs) each = absurd each
  all_few (s ∷ ss) [] each = absurd each
  all_few (s ∷ ss) (c ∷ cs) each = All-cons IsFew c cs each.0.1.few (all_few ss cs each.1)

  -- they have changed as the whole changes, and what they answered adds up to what the definition
  -- answers
  pub changed_shards : (shards : ℕ) (ss : List (ℕ × Seen)) (cs : List (ℕ × Answered Done)) → EachBecame (IsCommitted C e) ss cs → AreShards shards ss
      → AreShards shards (map shard_answered cs) × (held_by (map shard_answered cs) ≡ change_holdings C (held_by ss) e)
      × (done_of cs ≡ done (held_by ss) (held_by (map shard_answered cs)))
  changed_shards shards ss cs each h =
      let Ps : List Holdings = parts_of ss in
      let Qs : List Holdings = parts_of (map shard_answered cs) in
      let long : shards ≡ length Ps = h.long ∙ sym (count_of ss) in
      let changed = each_changed shards 0 ss cs each h.indexed in
      let whole = whole_changes_by_event C e shards Ps Qs h.some long h.own changed in (
        record { indexed = indexed_again shards 0 ss cs each h.indexed; own = whole.1; long = whole.2 ∙ count_of (map shard_answered cs); some = h.some; few = h.few },
        whole.0,
        done_is ss cs each ∙ done_adds_up C e shards Ps Qs h.some long h.own changed,
      )

  -- The facts above, in the form of a function's goals.

  as_long : (ss : List (ℕ × Seen)) (cs : List (ℕ × Answered Done)) → EachBecame (IsCommitted C e) ss cs → length cs ≡ length ss
  as_long [] [] each = refl
  as_long [] (c ∷ cs) each = absurd each
  as_long (s ∷ ss) [] each = absurd each
  as_long (s ∷ ss) (c ∷ cs) each = ap suc (as_long ss cs each.1)

  pub up_to_64 : (ss : List (ℕ × Seen)) (cs : List (ℕ × Answered Done)) → EachBecame (IsCommitted C e) ss cs → AreShards (length ss) ss → length cs ≤ 64
  up_to_64 ss cs each h = omega (arith, as_long ss cs each, h.few)

  pub now_shards : (ss last : List (ℕ × Seen)) (cs : List (ℕ × Answered Done)) → EachBecame (IsCommitted C e) ss cs → last ≡ map shard_answered cs → AreShards (length ss) ss → AreShards (length last) last
  now_shards ss last cs each end h = are_shards (length ss) last (subst (AreShards (length ss)) (sym end) (changed_shards (length ss) ss cs each h).0)

  pub now_held : (ss last : List (ℕ × Seen)) (cs : List (ℕ × Answered Done)) → EachBecame (IsCommitted C e) ss cs → last ≡ map shard_answered cs → AreShards (length ss) ss
      → held_by last ≡ change_holdings C (held_by ss) e
  now_held ss last cs each end h = ap held_by end ∙ (changed_shards (length ss) ss cs each h).1

  pub now_done : (ss last : List (ℕ × Seen)) (cs : List (ℕ × Answered Done)) (d : Done) → EachBecame (IsCommitted C e) ss cs → last ≡ map shard_answered cs → d ≡ done_of cs → AreShards (length ss) ss
      → d ≡ done (held_by ss) (held_by last)
  now_done ss last cs d each end done_is h = done_is ∙ (changed_shards (length ss) ss cs each h).2 ∙ ap (λ xs. done (held_by ss) (held_by xs)) (sym end)
