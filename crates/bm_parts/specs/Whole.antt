-- The whole of the parts of several shards.
use Rattle.std.specs.Prelude.{◌≡◌, ℕ, suc, ◌+◌, ◌≤◌, List, [], ◌∷◌, length, map}
use Rattle.bm_base.specs.Words.{entries, insert_all, Holdings, empty_holdings, done, range_from}
use Rattle.bm_base.specs.declared.event.Done.{Done}
use Rattle.bm_base.specs.Shards.{cut}

-- the union of two holdings
unfoldable pub joined_with : Holdings → Holdings → Holdings
joined_with P Q = record {
  blocks = insert_all Q.blocks (entries P.blocks);
  replicas = insert_all Q.replicas (entries P.replicas);
  pending = insert_all Q.pending (entries P.pending);
}

-- the union of all these holdings
abbrev pub whole_of : List Holdings → Holdings
whole_of [] = empty_holdings
whole_of (P ∷ Ps) = joined_with P (whole_of Ps)

-- the parts of n shards, from this index on
abbrev pub parts_from : Holdings → ℕ → ℕ → ℕ → List Holdings
parts_from H shards index n = map (λ i. cut H i shards) (range_from index n)

-- the parts of all shards, by their indexes
abbrev pub parts : Holdings → ℕ → List Holdings
parts H shards = parts_from H shards 0 shards

-- each of these parts has blocks of its own shard only; the first shard has this index
abbrev pub AreOwn : ℕ → ℕ → List Holdings → Type 0
AreOwn shards index [] = Unit {0}
AreOwn shards index (P ∷ Ps) = (cut P index shards ≡ P) × AreOwn shards (suc index) Ps

-- R holds of the two lists of parts pairwise, at each index from this one on
abbrev pub EachPart : (ℕ → Holdings → Holdings → Type 0) → ℕ → List Holdings → List Holdings → Type 0
EachPart R index [] [] = Unit {0}
EachPart R index (P ∷ Ps) (Q ∷ Qs) = R index P Q × EachPart R (suc index) Ps Qs
EachPart R index [] (Q ∷ Qs) = ⊥
EachPart R index (P ∷ Ps) [] = ⊥

-- how many replicas came and went in all parts
abbrev pub done_of_all : List Holdings → List Holdings → Done
done_of_all (P ∷ Ps) (Q ∷ Qs) = record { added = (done P Q).added + (done_of_all Ps Qs).added; removed = (done P Q).removed + (done_of_all Ps Qs).removed }
done_of_all _ _ = record { added = 0; removed = 0 }

-- the whole of the parts is what was cut
abbrev pub parts_are_the_whole : Type 0
parts_are_the_whole = (H : Holdings) (shards : ℕ) → 1 ≤ shards → whole_of (parts H shards) ≡ H

-- cutting a whole gives the parts of which it was made
abbrev pub whole_has_its_parts : Type 0
whole_has_its_parts = (Ps : List Holdings) (shards : ℕ) → AreOwn shards 0 Ps → shards ≡ length Ps → parts (whole_of Ps) shards ≡ Ps
