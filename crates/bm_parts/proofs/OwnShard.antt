-- The shard of a block answers a query about it, and checks an event on it, as the whole does.
use Rattle.std.proofs.Common.{◌≡◌, ℕ, Bool, true, false, ◌&&◌, [], ◌∷◌, Some, refl, ap, subst, ◌∙◌, eqb-true, eq-eqb}
use Rattle.std.specs.Prelude.{◌==◌, not, is_some, nat_le}
use Rattle.std.specs.Option.{option_map_or}
use Rattle.bm_base.specs.declared.replica.Stamp.{Stamp}
use Rattle.bm_base.specs.declared.refusal.Refusal.TheVariants.{UnknownBlock, BlockKnown, StillStored, BadReplication, OldGeneration}
use Rattle.std.proofs.lemmas.Option.{same_Some}
use Rattle.bm_parts.specs.Parts.{block_of}
use Rattle.std.specs.List.{list_any}
use Rattle.bm_base.specs.declared.replica.ReplicaId.{ReplicaId}
use Rattle.bm_base.specs.declared.replica.Marks.{Marks}
use Rattle.bm_base.specs.declared.replica.BlockInfo.{BlockInfo}
use Rattle.bm_base.specs.declared.event.Event.{Event}
use Rattle.bm_base.specs.declared.event.Event.TheVariants.{Register, Dead, StorageFailed, Heartbeat, Drain, Undrain, AddBlock, DeleteBlock, SetReplication, Restamp, Received, Deleted, Corrupt, FullReport}
use Rattle.bm_base.specs.Words.{entries, Holdings, is_stray, first_of, block_checks, block_refusal, knows_block, is_still_stored, is_old, is_bad_replication}
use Rattle.bm_base.specs.Shards.{shard_of, cut}
use Rattle.bm_parts.specs.QueryLaws as law
use Rattle.bm_parts.proofs.Parts.{own}
use Rattle.std.proofs.lemmas.Map.Views.{any-filter_same}
use Rattle.bm_parts.proofs.CutParts.{known_cut, level_cut, replicas_cut}
use Rattle.bm_parts.proofs.JoinedBlocks.{places_cut}

-- One block.

module _ (H : Holdings) (b shards : ℕ) where
  abbrev its_part : Holdings
  its_part = cut H (shard_of b shards) shards

  is_own : own (shard_of b shards) shards b ≡ true
  is_own = eq-eqb _ _ refl

  knows_same : knows_block its_part b ≡ knows_block H b
  unfolding knows_block
  knows_same = ap (λ o. is_some o) (known_cut (shard_of b shards) shards H b is_own)

  stored_same : is_still_stored its_part b ≡ is_still_stored H b
  unfolding is_still_stored
  stored_same =
      ap (list_any (λ (e : ReplicaId × Marks). (e.0.block == b) && is_stray e.1.tag)) (replicas_cut (shard_of b shards) shards H)
      ∙ any-filter_same (λ (e : ReplicaId × Marks). (e.0.block == b) && is_stray e.1.tag) (λ e. own (shard_of b shards) shards e.0.block) true (λ e t. of_block e.0.block (is_stray e.1.tag) t) (entries H.replicas)
    where
      of_block : (c : ℕ) (t : Bool) → ((c == b) && t) ≡ true → own (shard_of b shards) shards c ≡ true
      of_block c t e = by (c == b) refl e
        where
          by : (u : Bool) → (c == b) ≡ u → (u && t) ≡ true → own (shard_of b shards) shards c ≡ true
          by true f g = ap (own (shard_of b shards) shards) (eqb-true c b f) ∙ is_own
          by false f g = cc

  old_same : (stamp : Stamp) → is_old its_part b stamp ≡ is_old H b stamp
  unfolding is_old
  old_same stamp = ap (λ o. option_map_or (λ (i : BlockInfo). nat_le stamp.generation i.stamp.generation) o false) (known_cut (shard_of b shards) shards H b is_own)

pub own_shard_answers : law.own_shard_answers
unfolding block_refusal
own_shard_answers C H b shards = (
  ap (λ t. first_of ((UnknownBlock, not t) ∷ [])) (knows_same H b shards),
  places_cut H (shard_of b shards) shards b (is_own H b shards),
  level_cut (shard_of b shards) shards C H b (is_own H b shards),
)

checks_at : (H : Holdings) (e : Event) (b shards : ℕ) → block_of e ≡ Some b → (c : ℕ) → b ≡ c → block_checks (cut H (shard_of c shards) shards) e ≡ block_checks H e
unfolding block_checks
checks_at H (AddBlock d stamp repl) b shards is c e = subst (λ x. block_checks (cut H (shard_of x shards) shards) (AddBlock d stamp repl) ≡ block_checks H (AddBlock d stamp repl)) (same_Some d b is ∙ e)
    (λ j. (BlockKnown, knows_same H d shards j) ∷ (StillStored, stored_same H d shards j) ∷ (BadReplication, is_bad_replication repl) ∷ [])
checks_at H (DeleteBlock d) b shards is c e = subst (λ x. block_checks (cut H (shard_of x shards) shards) (DeleteBlock d) ≡ block_checks H (DeleteBlock d)) (same_Some d b is ∙ e)
    (λ j. (UnknownBlock, not (knows_same H d shards j)) ∷ [])
checks_at H (SetReplication d repl) b shards is c e = subst (λ x. block_checks (cut H (shard_of x shards) shards) (SetReplication d repl) ≡ block_checks H (SetReplication d repl)) (same_Some d b is ∙ e)
    (λ j. (UnknownBlock, not (knows_same H d shards j)) ∷ (BadReplication, is_bad_replication repl) ∷ [])
checks_at H (Restamp d stamp) b shards is c e = subst (λ x. block_checks (cut H (shard_of x shards) shards) (Restamp d stamp) ≡ block_checks H (Restamp d stamp)) (same_Some d b is ∙ e)
    (λ j. (UnknownBlock, not (knows_same H d shards j)) ∷ (OldGeneration, old_same H d shards stamp j) ∷ [])
checks_at H (Corrupt s d) b shards is c e = subst (λ x. block_checks (cut H (shard_of x shards) shards) (Corrupt s d) ≡ block_checks H (Corrupt s d)) (same_Some d b is ∙ e)
    (λ j. (UnknownBlock, not (knows_same H d shards j)) ∷ [])
checks_at H (Received s d stamp) b shards is c e = refl
checks_at H (Deleted s d) b shards is c e = refl
checks_at H (FullReport s es) b shards is c e = refl
checks_at H (Register n rack ss) b shards is c e = refl
checks_at H (Dead n) b shards is c e = refl
checks_at H (StorageFailed s) b shards is c e = refl
checks_at H (Heartbeat n rs) b shards is c e = refl
checks_at H (Drain n) b shards is c e = refl
checks_at H (Undrain n) b shards is c e = refl

pub own_shard_checks : law.own_shard_checks
own_shard_checks H e b shards is = checks_at H e b shards is b refl
