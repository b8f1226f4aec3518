-- A count of the replicas at a slot, even one that stops early, gives the status of its block.
use Rattle.std.specs.Prelude.{◌≡◌, ℕ, ◌≤◌, ◌<◌, Bool, true, false, not, ◌&&◌, if◌then◌else◌, nat_le, nat_lt, List, [], length, map, filter_map, Option, Some, None, is_some, option_map, option_and_then}
use Rattle.std.specs.Int.{from_bool}
use Rattle.std.specs.Option.{option_map_or}
use Rattle.std.specs.List.{list_any}
use Rattle.std.proofs.Common.{refl, sym, subst, ap, ◌∙◌, inl, inr, arith}
use Rattle.std.proofs.lemmas.Bool.{le-leb, lt-leb}
use Rattle.std.proofs.lemmas.List.{length-map}
use Rattle.std.proofs.lemmas.Option.{none-some, same_Some}
use Rattle.std.proofs.Math.Bool.{and-false}
use Rattle.bm_base.specs.declared.replica.Marks.{Marks}
use Rattle.bm_base.specs.declared.replica.BlockInfo.{BlockInfo}
use Rattle.bm_base.specs.declared.replica.Level.TheVariants.{BadlyDistributed}
use Rattle.bm_base.specs.Machine.Levels.{level_of}
use Rattle.bm_base.specs.Spread.{spread, spread_after}
use Rattle.bm_arena.specs.declared.arena.Triplet.{Triplet}
use Rattle.bm_arena.specs.Triplets.{Block, triplet_view}
use Rattle.bm_levels.specs.declared.classification.ReplicaCount.{ReplicaCount}
use Rattle.bm_levels.specs.Status.{storages_at, is_live_by, is_drained_by, is_good_and_unmarked, level_by, is_settled_at}
use Rattle.bm_levels.specs.ReplicaCounts.{none, count_replicas, racks_of, IsCountOf}
use Rattle.bm_levels.proofs.Counts.{counted_is}

abbrev listed : Option Block → List (ℕ × Marks)
listed o = option_map_or (λ (b : Block). b.replicas) o []

abbrev info_in : Option Block → Option BlockInfo
info_in o = option_and_then (λ (b : Block). b.info) o

module _ (rack : ℕ → Option ℕ) (draining : ℕ → Bool) where
  level_known : (multi : Bool) (o : Option Block) (i : BlockInfo) (k : ReplicaCount) → info_in o ≡ Some i → k ≡ count_replicas rack draining none (listed o)
      → level_of (record { live = k.live; drained = k.drained; wanted = i.repl; racks = racks_of k; multi_rack = multi }) ≡ level_by rack draining multi o
  unfolding level_by
  level_known multi None i k e f = cc
  level_known multi (Some b) i k e f =
      let h = counted_is rack draining none b.replicas in
      let lives : (count_replicas rack draining none b.replicas).live ≡ length (storages_at (is_live_by draining) b.replicas) = omega (arith, h.0) in
      let others : (count_replicas rack draining none b.replicas).drained ≡ length (storages_at (is_drained_by draining) b.replicas) = omega (arith, h.1) in
      ap (λ z. level_of (record { live = z.live; drained = z.drained; wanted = i.repl; racks = racks_of z; multi_rack = multi })) f
      ∙ (λ t. level_of (record { live = lives t; drained = others t; wanted = i.repl; racks = h.3 t; multi_rack = multi }))
      ∙ sym (ap (option_and_then (λ (j : BlockInfo). level_of (record { live = length (storages_at (is_live_by draining) b.replicas); drained = length (storages_at (is_drained_by draining) b.replicas); wanted = j.repl; racks = spread (filter_map rack (storages_at (is_live_by draining) b.replicas)); multi_rack = multi }))) e)

  none_wanted : (live drained repl : ℕ) (multi : Bool) → repl ≤ live → level_of (record { live = live; drained = drained; wanted = repl; racks = 2; multi_rack = multi }) ≡ None
  unfolding level_of
  none_wanted live drained repl multi many = rw (le-leb repl live many) (apart (nat_lt 1 repl))
    where
      apart : (b : Bool) → (if b && false && multi then Some BadlyDistributed else None) ≡ None
      apart true = refl
      apart false = refl

  -- enough of the counted replicas are live, on two racks; the rest does not change the level
  level_soon : (multi : Bool) (o : Option Block) (i : BlockInfo) (k : ReplicaCount) (rs : List (ℕ × Marks)) → info_in o ≡ Some i
      → count_replicas rack draining k rs ≡ count_replicas rack draining none (listed o) → i.repl ≤ k.live → k.is_spread ≡ true → None ≡ level_by rack draining multi o
  level_soon multi o i k rs e f many spread =
      let z : ReplicaCount = count_replicas rack draining k rs in
      let h = counted_is rack draining k rs in
      let two : racks_of z ≡ 2 = h.3 ∙ ap (λ b. if b then 2 else spread_after k.first (filter_map rack (storages_at (is_live_by draining) rs))) spread in
      let enough : i.repl ≤ z.live = omega (arith, h.0, many) in
      sym (none_wanted z.live z.drained i.repl multi enough) ∙ sym (ap (λ n. level_of (record { live = z.live; drained = z.drained; wanted = i.repl; racks = n; multi_rack = multi })) two) ∙ level_known multi o i z e f

  -- a block with more replicas than are wanted is not settled
  settled_soon : (o : Option Block) (i : BlockInfo) → info_in o ≡ Some i → i.repl < option_map_or (λ (b : Block). length b.replicas) o 0 → false ≡ is_settled_at o
  unfolding is_settled_at
  settled_soon None i e more = absurd (omega (arith, more))
  settled_soon (Some b) i e more =
      let plain = not (list_any (λ (r : ℕ × Marks). not (is_good_and_unmarked r.1)) b.replicas) in
      never plain
      ∙ sym (ap (λ t. plain && t) (lt-leb (length b.replicas) i.repl more))
      ∙ sym (ap (λ z. plain && option_map_or (λ (j : BlockInfo). nat_le (length b.replicas) j.repl) z true) e)
    where
      never : (b : Bool) → false ≡ (b && false)
      never true = refl
      never false = refl

  pub level_unknown : (multi : Bool) (o : Option Block) → info_in o ≡ None → None ≡ level_by rack draining multi o
  unfolding level_by
  level_unknown multi None e = refl
  level_unknown multi (Some b) e =
      sym (ap (option_and_then (λ (j : BlockInfo). level_of (record { live = length (storages_at (is_live_by draining) b.replicas); drained = length (storages_at (is_drained_by draining) b.replicas); wanted = j.repl; racks = spread (filter_map rack (storages_at (is_live_by draining) b.replicas)); multi_rack = multi }))) e)

  plain_all : (rs : List (ℕ × Marks)) (k : ReplicaCount) → k ≡ count_replicas rack draining none rs → k.is_good_and_unmarked ≡ not (list_any (λ (r : ℕ × Marks). not (is_good_and_unmarked r.1)) rs)
  plain_all rs k f = ap (λ z. z.is_good_and_unmarked) f ∙ (counted_is rack draining none rs).2

  settled_known : (o : Option Block) (i : BlockInfo) (k : ReplicaCount) → info_in o ≡ Some i → k ≡ count_replicas rack draining none (listed o)
      → (k.is_good_and_unmarked && nat_le (option_map_or (λ (b : Block). length b.replicas) o 0) i.repl) ≡ is_settled_at o
  unfolding is_settled_at
  settled_known None i k e f = cc
  settled_known (Some b) i k e f =
      (λ t. plain_all b.replicas k f t && nat_le (length b.replicas) i.repl)
      ∙ sym (ap (λ z. not (list_any (λ (r : ℕ × Marks). not (is_good_and_unmarked r.1)) b.replicas) && option_map_or (λ (j : BlockInfo). nat_le (length b.replicas) j.repl) z true) e)

  settled_unknown : (o : Option Block) (k : ReplicaCount) → info_in o ≡ None → k ≡ count_replicas rack draining none (listed o) → k.is_good_and_unmarked ≡ is_settled_at o
  unfolding is_settled_at
  settled_unknown None k e f = ap (λ z. z.is_good_and_unmarked) f
  settled_unknown (Some b) k e f =
      plain_all b.replicas k f ∙ all (not (list_any (λ (r : ℕ × Marks). not (is_good_and_unmarked r.1)) b.replicas))
      ∙ sym (ap (λ z. not (list_any (λ (r : ℕ × Marks). not (is_good_and_unmarked r.1)) b.replicas) && option_map_or (λ (j : BlockInfo). nat_le (length b.replicas) j.repl) z true) e)
    where
      all : (c : Bool) → c ≡ (c && true)
      all true = refl
      all false = refl

  -- such a count determines the level
  level_counted : (multi : Bool) (b : Block) (i : BlockInfo) (k : ReplicaCount) → b.info ≡ Some i → IsCountOf rack draining i.repl b.replicas k
      → level_of (record { live = k.live; drained = k.drained; wanted = i.repl; racks = racks_of k; multi_rack = multi }) ≡ level_by rack draining multi (Some b)
  unfolding racks_of
  level_counted multi b i k e h =
      elim h.decided [
        | inl all ↦ level_known multi (Some b) i k e (sym (ap (count_replicas rack draining k) all) ∙ h.counted)
        | inr soon ↦
            ap (λ s. level_of (record { live = k.live; drained = k.drained; wanted = i.repl; racks = if s then 2 else from_bool (is_some k.first); multi_rack = multi })) soon.2 ∙ none_wanted k.live k.drained i.repl multi soon.1
            ∙ level_soon multi (Some b) i k h.rest e h.counted soon.1 soon.2
      ]

  -- such a count determines whether the block is settled
  settled_counted : (b : Block) (i : BlockInfo) (k : ReplicaCount) → b.info ≡ Some i → IsCountOf rack draining i.repl b.replicas k → (k.is_good_and_unmarked && nat_le (length b.replicas) i.repl) ≡ is_settled_at (Some b)
  settled_counted b i k e h =
      elim h.decided [
        | inl all ↦ settled_known (Some b) i k e (sym (ap (count_replicas rack draining k) all) ∙ h.counted)
        | inr soon ↦ ap (λ t. k.is_good_and_unmarked && t) (lt-leb (length b.replicas) i.repl soon.0) ∙ and-false k.is_good_and_unmarked ∙ settled_soon (Some b) i e soon.0
      ]

  pub level_classified : (multi : Bool) (o : Option Block) (ts : List Triplet) (i : BlockInfo) (k : ReplicaCount) → Some (Some i) ≡ option_map (λ (b : Block). b.info) o
      → Some (map triplet_view ts) ≡ option_map (λ (b : Block). b.replicas) o → IsCountOf rack draining i.repl (map triplet_view ts) k
      → level_of (record { live = k.live; drained = k.drained; wanted = i.repl; racks = racks_of k; multi_rack = multi }) ≡ level_by rack draining multi o
  level_classified multi None ts i k info is h = absurd (none-some _ (sym info))
  level_classified multi (Some b) ts i k info is h =
      level_counted multi b i k (sym (same_Some (Some i) b.info info)) (subst (λ rs. IsCountOf rack draining i.repl rs k) (same_Some (map triplet_view ts) b.replicas is) h)

  pub settled_classified : (o : Option Block) (ts : List Triplet) (n : ℕ) (i : BlockInfo) (k : ReplicaCount) → Some (Some i) ≡ option_map (λ (b : Block). b.info) o
      → Some (map triplet_view ts) ≡ option_map (λ (b : Block). b.replicas) o → n ≡ option_map_or (λ (b : Block). length b.replicas) o 0
      → IsCountOf rack draining i.repl (map triplet_view ts) k → (k.is_good_and_unmarked && nat_le n i.repl) ≡ is_settled_at o
  settled_classified None ts n i k info is many h = absurd (none-some _ (sym info))
  settled_classified (Some b) ts n i k info is many h =
      let rs = same_Some (map triplet_view ts) b.replicas is in
      ap (λ m. k.is_good_and_unmarked && nat_le m i.repl) many ∙ settled_counted b i k (sym (same_Some (Some i) b.info info)) (subst (λ xs. IsCountOf rack draining i.repl xs k) rs h)

  -- an unknown block needs a count of all its replicas
  pub unknown_classified : (o : Option Block) (ts : List Triplet) (k : ReplicaCount) → Some None ≡ option_map (λ (b : Block). b.info) o → Some (map triplet_view ts) ≡ option_map (λ (b : Block). b.replicas) o
      → IsCountOf rack draining (length ts) (map triplet_view ts) k → k.is_good_and_unmarked ≡ is_settled_at o
  unknown_classified None ts k info is h = absurd (none-some _ (sym info))
  unknown_classified (Some b) ts k info is h =
      let rs = same_Some (map triplet_view ts) b.replicas is in
      elim h.decided [
        | inl all ↦ settled_unknown (Some b) k (sym (same_Some None b.info info)) (sym (ap (count_replicas rack draining k) all) ∙ h.counted ∙ ap (count_replicas rack draining none) rs)
        | inr soon ↦ let same = length-map ts triplet_view in absurd (omega (arith, soon.0, same))
      ]

  pub none_classified : (multi : Bool) (o : Option Block) → None ≡ option_map (λ (b : Block). b.info) o → (None ≡ level_by rack draining multi o) × (true ≡ is_settled_at o)
  unfolding level_by is_settled_at
  none_classified multi None info = (refl, refl)
  none_classified multi (Some b) info = absurd (none-some _ (info))

  pub unknown_level : (multi : Bool) (o : Option Block) → Some None ≡ option_map (λ (b : Block). b.info) o → None ≡ level_by rack draining multi o
  unknown_level multi None info = absurd (none-some _ (sym info))
  unknown_level multi (Some b) info = level_unknown multi (Some b) (sym (same_Some None b.info info))
