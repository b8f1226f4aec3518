-- A query asked of a block's shard, or gathered from all shards, has the answer of the whole.
use Rattle.std.specs.Prelude.{◌≡◌, ℕ, ◌≤◌, ◌||◌, Bool, List, [], ◌∷◌, map, flat_map, length, Some, None}
use Rattle.std.specs.List.{list_any}
use Rattle.std.specs.List.Sorted.{IsPermutation, IsSortedByKey}
use Rattle.std.specs.Ordering.{nat_cmp}
use Rattle.std.proofs.Common.{refl, sym, ap, subst, ◌∙◌, take, arith}
use Rattle.std.proofs.lemmas.List.{take_all}
use Rattle.std.proofs.lemmas.List.Folds.{flat_map-map}
use Rattle.bm_base.specs.declared.event.Event.{Event}
use Rattle.bm_base.specs.declared.event.Event.TheVariants.{AddBlock, DeleteBlock, SetReplication, Restamp, Received, Deleted, Corrupt}
use Rattle.bm_base.specs.declared.replica.Marks.{Marks}
use Rattle.bm_base.specs.declared.replica.Replica.{Replica}
use Rattle.bm_base.specs.declared.replica.ReplicaId.{ReplicaId}
use Rattle.bm_base.specs.Words.{by_number, Cluster, Holdings, by_replica, replica_cmp, empty_cluster, standard_limits, level, missing_blocks, blocks_on, places, first_of, block_checks, block_refusal, checked}
use Rattle.bm_base.specs.Shards.{shard_of, cut}
use Rattle.bm_base.specs.Promises.Versions.{Row, table}
use Rattle.bm_parts.specs.Parts.{block_of}
use Rattle.bm_parts.specs.QueryLaws.{holds_back, replica_key}
use Rattle.bm_parts.proofs.HeldBack.{held_back_by_some_part}
use Rattle.bm_parts.proofs.JoinedReplicas.{blocks_on_join}
use Rattle.bm_parts.proofs.JoinedBlocks.{missing_join, tables_join}
use Rattle.bm_parts.proofs.OwnShard.{own_shard_answers, own_shard_checks}
use Rattle.bm_parts.proofs.WholeParts.{whole_has_its_parts}
use Rattle.bm_shard.specs.ShardView.{Seen}
use Rattle.bm_shards.specs.Rows.{rows_of}
use Rattle.bm_shards.specs.Whole.{Whole, parts_of, held_by, AreShards, AreUpToDate, IsUpToDate}
use Rattle.bm_shards.proofs.Joins.{sorted_lists}
use Rattle.bm_shards.proofs.PartLists.{passing, passing_join, own_passing, own_missing, own_blocks_on, own_rows}
use Rattle.bm_shards.proofs.SameShards.{count_of}

-- The shard of a block answers for all shards: `ss` is seen as F, and P is what the block's own
-- shard holds.

module _ (b : ℕ) (ss items : List (ℕ × Seen)) (P : Holdings) (F : Whole) (own : P ≡ cut (held_by ss) (shard_of b (length ss)) (length ss)) (is : ss ≡ items)
    (seen : record { holdings = held_by items; shards = items } ≡ F) where
  seen_as : held_by ss ≡ F.holdings
  seen_as = ap held_by is ∙ ap (λ (G : Whole). G.holdings) seen

  pub own_refusal : block_refusal P b ≡ block_refusal F.holdings b
  own_refusal = ap (λ H. block_refusal H b) own ∙ (own_shard_answers (empty_cluster standard_limits) (held_by ss) b (length ss)).0 ∙ ap (λ H. block_refusal H b) seen_as

  pub own_places : places P b ≡ places F.holdings b
  own_places = ap (λ H. places H b) own ∙ (own_shard_answers (empty_cluster standard_limits) (held_by ss) b (length ss)).1 ∙ ap (λ H. places H b) seen_as

  pub own_level : (C : Cluster) → level C P b ≡ level C F.holdings b
  own_level C = ap (λ H. level C H b) own ∙ (own_shard_answers C (held_by ss) b (length ss)).2 ∙ ap (λ H. level C H b) seen_as

  pub own_check : (e : Event) → block_of e ≡ Some b → checked (first_of (block_checks P e)) ≡ checked (first_of (block_checks F.holdings e))
  own_check e on =
      ap (λ H. checked (first_of (block_checks H e))) own ∙ ap (λ cs. checked (first_of cs)) (own_shard_checks (held_by ss) e b (length ss) on)
      ∙ ap (λ H. checked (first_of (block_checks H e))) seen_as

-- an event on no block has no check on the blocks
no_block_checks : (H : Holdings) (e : Event) → block_of e ≡ None → first_of (block_checks H e) ≡ None
unfolding block_checks
no_block_checks H (AddBlock b stamp repl) is = cc
no_block_checks H (DeleteBlock b) is = cc
no_block_checks H (SetReplication b repl) is = cc
no_block_checks H (Restamp b stamp) is = cc
no_block_checks H (Received s b stamp) is = cc
no_block_checks H (Deleted s b) is = cc
no_block_checks H (Corrupt s b) is = cc
no_block_checks H e is = refl

pub no_check : (H : Holdings) (e : Event) → block_of e ≡ None → checked None ≡ checked (first_of (block_checks H e))
no_check H e none = ap checked (sym (no_block_checks H e none))

-- if the whole is up to date in a cluster, so is each shard
pub up_to_date_inside : (C : Cluster) (items : List (ℕ × Seen)) (F : Whole) → record { holdings = held_by items; shards = items } ≡ F → IsUpToDate C F → AreUpToDate C items
unfolding IsUpToDate
up_to_date_inside C items F seen h = subst (λ (G : Whole). AreUpToDate C G.shards) (sym seen) h

-- Some shard holds a node back.

any_part : (C : Cluster) (n : ℕ) (ss : List (ℕ × Seen)) → list_any (λ (s : ℕ × Seen). holds_back C n s.1.holdings) ss ≡ list_any (holds_back C n) (parts_of ss)
any_part C n [] = refl
any_part C n (s ∷ ss) = ap (λ t. holds_back C n s.1.holdings || t) (any_part C n ss)

pub some_shard : (C : Cluster) (n : ℕ) (ss : List (ℕ × Seen)) → AreShards (length ss) ss → list_any (λ (s : ℕ × Seen). holds_back C n s.1.holdings) ss ≡ holds_back C n (held_by ss)
some_shard C n ss h =
    any_part C n ss ∙ ap (list_any (holds_back C n)) (sym (whole_has_its_parts (parts_of ss) (length ss) h.own (sym (count_of ss)))) ∙ held_back_by_some_part C n (held_by ss) (length ss) h.some

-- The lists of the shards, gathered and then sorted. A loop over the shards `now` ended at n; they
-- are seen as F.

module _ (ss now : List (ℕ × Seen)) (n : ℕ) (F : Whole) (are : AreShards (length ss) ss) (is : now ≡ ss) (end : length now ≤ n) (seen : record { holdings = held_by ss; shards = ss } ≡ F) where
  pub sorted_replicas : (p : Marks → Bool) (xs ys : List Replica) → xs ≡ flat_map (λ (s : ℕ × Seen). passing p s.1.holdings) (take n now) → IsPermutation xs ys → IsSortedByKey replica_key replica_cmp ys → ys ≡ passing p F.holdings
  sorted_replicas p = sorted_lists by_replica replica_key (λ (q : ReplicaId). q.block) (passing p) (passing_join p) (own_passing p) ss now n F are is end seen

  pub sorted_missing : (C : Cluster) (xs ys : List ℕ) → xs ≡ flat_map (λ (s : ℕ × Seen). missing_blocks C s.1.holdings) (take n now) → IsPermutation xs ys → IsSortedByKey (λ (b : ℕ). b) nat_cmp ys → ys ≡ missing_blocks C F.holdings
  sorted_missing C = sorted_lists by_number (λ (b : ℕ). b) (λ b. b) (missing_blocks C) (missing_join C) (own_missing C) ss now n F are is end seen

  pub sorted_blocks_on : (storage : ℕ) (xs ys : List ℕ) → xs ≡ flat_map (λ (s : ℕ × Seen). blocks_on s.1.holdings storage) (take n now) → IsPermutation xs ys → IsSortedByKey (λ (b : ℕ). b) nat_cmp ys → ys ≡ blocks_on F.holdings storage
  sorted_blocks_on storage = sorted_lists by_number (λ (b : ℕ). b) (λ b. b) (λ H. blocks_on H storage) (blocks_on_join storage) (own_blocks_on storage) ss now n F are is end seen

pub sorted_rows : (ss : List (ℕ × Seen)) → AreShards (length ss) ss → (ts : List (List Row)) (ys : List Row) → ts ≡ map (λ (s : ℕ × Seen). rows_of s.1) ss → IsPermutation (flat_map (λ t. t) ts) ys → IsSortedByKey (λ (r : Row). r.0) nat_cmp ys → ys ≡ table (held_by ss)
sorted_rows ss are ts ys is moved ascends =
    sorted_lists by_number (λ (r : Row). r.0) (λ b. b) table tables_join own_rows ss ss (length ss) (record { holdings = held_by ss; shards = ss }) are refl (omega arith) refl (flat_map (λ t. t) ts) ys
    (ap (flat_map (λ t. t)) is ∙ flat_map-map (λ (t : List Row). t) (λ (s : ℕ × Seen). rows_of s.1) ss ∙ ap (flat_map (λ (s : ℕ × Seen). rows_of s.1)) (sym (take_all (length ss) ss (omega arith)))) moved ascends
