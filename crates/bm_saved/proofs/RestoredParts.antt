-- A restored block changes the part of its shard alone.
use Rattle.std.proofs.Common.{◌≡◌, ℕ, Bool, true, false, cond, List, [], ◌∷◌, map, filter, Option, Some, None, refl, ap, ◌∙◌}
use Rattle.std.specs.Prelude.{◌==◌, if◌then◌else◌}
use Rattle.std.specs.Option.{option_map_or}
use Rattle.bm_base.specs.declared.replica.ReplicaId.{ReplicaId}
use Rattle.bm_base.specs.declared.replica.BlockInfo.{BlockInfo}
use Rattle.bm_base.specs.Words.{Map, by_number, by_replica, insert, insert_all, Holdings}
use Rattle.bm_base.specs.Shards.{shard_of, cut}
use Rattle.bm_parts.proofs.PartMaps.{part, part_inserted_all, part_inserted_other}
use Rattle.bm_parts.proofs.KeepLaws.{keep-insert}
use Rattle.bm_saved.specs.Saved.{SavedBlock}
use Rattle.bm_saved.specs.Restoring.{replica_entry, transfer_entry, restore_block}
use Rattle.bm_saved.specs.Laws as law

module _ (index shards : ℕ) where
  abbrev own : ℕ → Bool
  own b = shard_of b shards == index

  abbrev own_replica : ReplicaId → Bool
  own_replica q = own q.block

  -- entries of one block pass all together, or none does
  all_pass : {X Y : Type 0} (f : Y → ReplicaId × X) (b : ℕ) → ((y : Y) → (f y).0.block ≡ b) → (t : Bool) → own b ≡ t → (ys : List Y) → filter (λ e. own_replica e.0) (map f ys) ≡ cond t (map f ys) []
  all_pass f b of_b true t [] = refl
  all_pass f b of_b false t [] = refl
  all_pass f b of_b true t (y ∷ ys) = ap (λ c. cond c (f y ∷ filter (λ e. own_replica e.0) (map f ys)) (filter (λ e. own_replica e.0) (map f ys))) (ap own (of_b y) ∙ t) ∙ ap (λ es. f y ∷ es) (all_pass f b of_b true t ys)
  all_pass f b of_b false t (y ∷ ys) = ap (λ c. cond c (f y ∷ filter (λ e. own_replica e.0) (map f ys)) (filter (λ e. own_replica e.0) (map f ys))) (ap own (of_b y) ∙ t) ∙ all_pass f b of_b false t ys

  in_part : {X Y : Type 0} (f : Y → ReplicaId × X) (b : ℕ) → ((y : Y) → (f y).0.block ≡ b) → own b ≡ true → (m : Map by_replica X) (ys : List Y)
      → part own_replica (insert_all m (map f ys)) ≡ insert_all (part own_replica m) (map f ys)
  in_part f b of_b t m ys = part_inserted_all own_replica m (map f ys) ∙ ap (insert_all (part own_replica m)) (all_pass f b of_b true t ys)

  not_in_part : {X Y : Type 0} (f : Y → ReplicaId × X) (b : ℕ) → ((y : Y) → (f y).0.block ≡ b) → own b ≡ false → (m : Map by_replica X) (ys : List Y)
      → part own_replica (insert_all m (map f ys)) ≡ part own_replica m
  not_in_part f b of_b t m ys = part_inserted_all own_replica m (map f ys) ∙ ap (insert_all (part own_replica m)) (all_pass f b of_b false t ys)

  block_in : (m : Map by_number BlockInfo) (b : ℕ) (o : Option BlockInfo) → own b ≡ true → part own (option_map_or (λ i. insert m b i) o m) ≡ option_map_or (λ i. insert (part own m) b i) o (part own m)
  block_in m b None t = refl
  block_in m b (Some i) t = keep-insert m (λ c _. own c) b i t

  block_not_in : (m : Map by_number BlockInfo) (b : ℕ) (o : Option BlockInfo) → own b ≡ false → part own (option_map_or (λ i. insert m b i) o m) ≡ part own m
  block_not_in m b None t = refl
  block_not_in m b (Some i) t = part_inserted_other own m b i t

  by_shard : (H : Holdings) (s : SavedBlock) (t : Bool) → own s.id ≡ t → cut (restore_block H s) index shards ≡ (if t then restore_block (cut H index shards) s else cut H index shards)
  unfolding cut restore_block
  by_shard H s true t = λ j. record {
    blocks = block_in H.blocks s.id s.info t j;
    replicas = in_part (replica_entry s.id) s.id (λ _. refl) t H.replicas s.replicas j;
    pending = in_part (transfer_entry s.id) s.id (λ _. refl) t H.pending s.pending j;
  }
  by_shard H s false t = λ j. record {
    blocks = block_not_in H.blocks s.id s.info t j;
    replicas = not_in_part (replica_entry s.id) s.id (λ _. refl) t H.replicas s.replicas j;
    pending = not_in_part (transfer_entry s.id) s.id (λ _. refl) t H.pending s.pending j;
  }

pub restored_in_one_part : law.restored_in_one_part
restored_in_one_part H s index shards = by_shard index shards H s (shard_of s.id shards == index) refl
