-- The blocks that the shards list, merged in order, are those that the whole lists.
use Rattle.std.proofs.Common.{◌≡◌, ℕ, Bool, true, false, cond, List, [], ◌∷◌, map, filter, refl, sym, ap, subst, ◌∙◌, T}
use Rattle.std.specs.Prelude.{◌==◌, take}
use Rattle.std.specs.Ordering.{nat_cmp}
use Rattle.std.specs.FinMap.{is_sorted}
use Rattle.bm_base.specs.declared.replica.BlockInfo.{BlockInfo}
use Rattle.bm_base.specs.Words.{by_number, entries, keys, Holdings, is_good, level, is_at, missing_blocks, places}
use Rattle.bm_base.specs.declared.replica.Level.TheVariants.{NoUsableReplica}
use Rattle.bm_base.specs.Promises.Versions.{table}
use Rattle.bm_base.specs.declared.limits.TheConstants.{MAX_PLACES}
use Rattle.bm_base.specs.Shards.{shard_of, cut}
use Rattle.bm_base.specs.Ordered.{ordered_by}
use Rattle.bm_parts.specs.Whole.{parts}
use Rattle.bm_parts.specs.QueryLaws as law
use Rattle.bm_parts.proofs.Parts.{own}
use Rattle.bm_parts.proofs.Filters.{filter_swap, map_filter, filter_all}
use Rattle.std.proofs.lemmas.Simd.{map-map}
use Rattle.bm_parts.proofs.CutParts.{keys_cut, storages_cut, level_cut}
use Rattle.bm_parts.proofs.WholeChoices.{flat_map_same}
use Rattle.bm_parts.proofs.JoinedReplicas.{listed_ascends, joins}

-- Known blocks.

module _ {Y : Type 0} (f : Holdings → ℕ → Y) (p : Holdings → ℕ → Bool) where
  abbrev blocks_as : Holdings → List Y
  blocks_as H = map (f H) (filter (p H) (keys H.blocks))

  blocks_as_cut : (block : Y → ℕ) → ((H : Holdings) (b : ℕ) → block (f H b) ≡ b)
      → ((H : Holdings) (i shards b : ℕ) → own i shards b ≡ true → f (cut H i shards) b ≡ f H b) → ((H : Holdings) (i shards b : ℕ) → own i shards b ≡ true → p (cut H i shards) b ≡ p H b)
      → (H : Holdings) (shards i : ℕ) → blocks_as (cut H i shards) ≡ filter (λ y. shard_of (block y) shards == i) (blocks_as H)
  blocks_as_cut block is same_f same_p H shards i =
      ap (λ bs. map (f (cut H i shards)) (filter (p (cut H i shards)) bs)) (keys_cut i shards H)
      ∙ ap (map (f (cut H i shards))) (filter_swap (own i shards) (p (cut H i shards)) (p H) (same_p H i shards) (keys H.blocks))
      ∙ same_mapped (filter (p H) (keys H.blocks))
      ∙ ap (λ (t : ℕ → Bool). map (f H) (filter t (filter (p H) (keys H.blocks)))) (λ j b. own i shards (sym (is H b) j))
      ∙ sym (map_filter (f H) (λ y. shard_of (block y) shards == i) (filter (p H) (keys H.blocks)))
    where
      same_mapped : (bs : List ℕ) → map (f (cut H i shards)) (filter (own i shards) bs) ≡ map (f H) (filter (own i shards) bs)
      same_mapped [] = refl
      same_mapped (b ∷ bs) =
          (elim (own i shards b) as (λ t. own i shards b ≡ t → map (f (cut H i shards)) (cond t (b ∷ filter (own i shards) bs) (filter (own i shards) bs)) ≡ map (f H) (cond t (b ∷ filter (own i shards) bs) (filter (own i shards) bs))) [
            | true ↦ λ t j. same_f H i shards b t j ∷ same_mapped bs j
            | false ↦ λ t. same_mapped bs
          ]) refl

  blocks_as_ascend : (key : Y → ℕ) → ((H : Holdings) (b : ℕ) → key (f H b) ≡ b) → (H : Holdings) → T (is_sorted nat_cmp (map (λ y. (key y, y)) (blocks_as H)))
  unfolding keys entries
  blocks_as_ascend key is H =
      subst (λ ys. T (is_sorted nat_cmp (map (λ y. (key y, y)) ys)))
      (sym (ap (map (f H)) (map_filter (λ (e : ℕ × BlockInfo). e.0) (p H) H.blocks.list) ∙ map-map (f H) (λ (e : ℕ × BlockInfo). e.0) (filter (λ e. p H e.0) H.blocks.list)))
      (listed_ascends nat_cmp (λ (e : ℕ × BlockInfo). f H e.0) (λ e. p H e.0) key (λ e. is H e.0) H.blocks.list H.blocks.sorted)

pub map_same : (bs : List ℕ) → map (λ b. b) bs ≡ bs
map_same [] = refl
map_same (b ∷ bs) = ap (λ cs. b ∷ cs) (map_same bs)

pub missing_join : law.missing_join
unfolding missing_blocks
missing_join C H shards some =
    let test : Holdings → ℕ → Bool = λ H b. is_at NoUsableReplica (level C H b) in
    ap (ordered_by by_number (λ (b : ℕ). b)) (flat_map_same (λ P. filter (test P) (keys P.blocks)) (blocks_as (λ _ b. b) test) (λ P. sym (map_same (filter (test P) (keys P.blocks)))) (parts H shards))
    ∙ joins by_number (λ (b : ℕ). b) (blocks_as (λ _ b. b) test) (λ b. b) H shards some (blocks_as_ascend (λ _ b. b) test (λ b. b) (λ _ _. refl) H)
    (blocks_as_cut (λ _ b. b) test (λ b. b) (λ _ _. refl) (λ _ _ _ _ _. refl) (λ G i n b t. ap (is_at NoUsableReplica) (level_cut i n C G b t)) H shards)
    ∙ map_same (filter (test H) (keys H.blocks))

pub places_cut : (H : Holdings) (i shards b : ℕ) → own i shards b ≡ true → places (cut H i shards) b ≡ places H b
places_cut H i shards b t = storages_cut i shards (λ _ m. is_good m.tag) H b t

pub tables_join : law.tables_join
unfolding table
tables_join H shards some =
    let row : Holdings → ℕ → ℕ × List ℕ = λ H b. (b, take MAX_PLACES (places H b)) in
    ap (ordered_by by_number (λ (row : ℕ × List ℕ). row.0)) (flat_map_same (λ P. map (row P) (keys P.blocks)) (blocks_as row (λ _ _. true)) (λ P. ap (map (row P)) (sym (filter_all (keys P.blocks)))) (parts H shards))
    ∙ joins by_number (λ (row : ℕ × List ℕ). row.0) (blocks_as row (λ _ _. true)) (λ r. r.0) H shards some (blocks_as_ascend row (λ _ _. true) (λ r. r.0) (λ _ _. refl) H)
    (blocks_as_cut row (λ _ _. true) (λ r. r.0) (λ _ _. refl) (λ G i n b t. ap (λ ss. (b, take MAX_PLACES ss)) (places_cut G i n b t)) (λ _ _ _ _ _. refl) H shards)
    ∙ ap (map (row H)) (filter_all (keys H.blocks))
