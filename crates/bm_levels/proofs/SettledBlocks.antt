-- A block settled at its slot has good, unmarked replicas only, and no more than are wanted.
use Rattle.std.specs.Prelude.{◌≡◌, ℕ, ◌≤◌, Bool, true, false, not, ◌&&◌, nat_le, List, [], ◌∷◌, length, map, filter, Some, if◌then◌else◌, ◌==◌}
use Rattle.std.specs.Option.{option_map_or}
use Rattle.std.specs.List.{list_any}
use Rattle.std.proofs.Common.{cond, refl, sym, ap, ◌∙◌, arith}
use Rattle.std.proofs.lemmas.Bool.{or_parts, not-false}
use Rattle.std.proofs.lemmas.Bool.Decides.{nat_tests}
use Rattle.bm_base.specs.declared.replica.Marks.{Marks}
use Rattle.bm_base.specs.declared.replica.Tag.{Tag}
use Rattle.bm_base.specs.declared.replica.Tag.TheVariants.{Good, Stale, Bad, Stray}
use Rattle.bm_base.specs.declared.replica.BlockInfo.{BlockInfo}
use Rattle.bm_base.specs.Words.{Map, get, by_replica, replica_at, is_good, is_usable, storages_where}
use Rattle.bm_arena.specs.Triplets.{Block}
use Rattle.bm_arena.specs.Contents.{Contents, block_at, slot_of, find_marks, IsLawful}
use Rattle.bm_levels.specs.Status.{storages_at, is_good_and_unmarked, is_settled_at}
use Rattle.bm_levels.specs.SlotHoldings.{holdings_with}
use Rattle.bm_levels.proofs.Levels.{found_marks, found_info, as_many}

abbrev plain : Marks
plain = record { tag = Good; excess = false; ordered = false }

pub plain_is : (m : Marks) → is_good_and_unmarked m ≡ true → m ≡ plain
plain_is m e = by m.tag m.excess m.ordered e
  where
    by : (t : Tag) (x o : Bool) → (is_good t && not x && not o) ≡ true → record { tag = t; excess = x; ordered = o } ≡ plain
    by Good false false f = refl
    by Good false true f = cc
    by Good true o f = cc
    by Stale x o f = cc
    by Bad x o f = cc
    by Stray x o f = cc

parts_of : (a b : Bool) → (not a && b) ≡ true → (a ≡ false) × (b ≡ true)
parts_of true b e = cc
parts_of false b e = (refl, e)

each_plain : (rs : List (ℕ × Marks)) (s : ℕ) (m : Marks) → list_any (λ (r : ℕ × Marks). not (is_good_and_unmarked r.1)) rs ≡ false → find_marks rs s ≡ Some m → is_good_and_unmarked m ≡ true
each_plain [] s m e f = cc
each_plain (r ∷ rs) s m e f =
    let h = or_parts (not (is_good_and_unmarked r.1)) (list_any (λ (x : ℕ × Marks). not (is_good_and_unmarked x.1)) rs) e in
    (elim (r.0 == s) as (λ b. (if b then Some r.1 else find_marks rs s) ≡ Some m → is_good_and_unmarked m ≡ true) [
      | true ↦ λ g. let same : r.1 ≡ m = (cc) in ap is_good_and_unmarked (sym same) ∙ not-false (is_good_and_unmarked r.1) h.0
      | false ↦ λ g. each_plain rs s m h.1 g
    ]) f

no_more : (p : ℕ → Marks → Bool) (rs : List (ℕ × Marks)) → length (storages_at p rs) ≤ length rs
no_more p [] = omega arith
no_more p (r ∷ rs) =
    let rest = no_more p rs in
    elim (p r.0 r.1) as (λ b. length (map (λ (r : ℕ × Marks). r.0) (cond b (r ∷ filter (λ r. p r.0 r.1) rs) (filter (λ r. p r.0 r.1) rs))) ≤ length (r ∷ rs)) [
      | true ↦ omega (arith, rest)
      | false ↦ omega (arith, rest)
    ]

module _ (a : Contents) (pending : Map by_replica ℕ) (lawful : IsLawful a) (b slot : ℕ) (k : Block) (here : slot_of a b ≡ Some slot) (block_there : block_at a slot ≡ Some k) (settled : is_settled_at (Some k) ≡ true) where
  pub all_plain_at : (s : ℕ) (m : Marks) → get (holdings_with a pending).replicas (replica_at b s) ≡ Some m → m ≡ plain
  unfolding is_settled_at
  all_plain_at s m e =
      let h = parts_of (list_any (λ (r : ℕ × Marks). not (is_good_and_unmarked r.1)) k.replicas) (option_map_or (λ (i : BlockInfo). nat_le (length k.replicas) i.repl) k.info true) settled in
      plain_is m (each_plain k.replicas s m h.0 (sym (found_marks a pending lawful b slot k here block_there s) ∙ e))

  pub few_at : (i : BlockInfo) → get (holdings_with a pending).blocks b ≡ Some i → length (storages_where (λ _ m. is_usable m) (holdings_with a pending) b) ≤ i.repl
  unfolding is_settled_at
  few_at i e =
      let h = parts_of (list_any (λ (r : ℕ × Marks). not (is_good_and_unmarked r.1)) k.replicas) (option_map_or (λ (i : BlockInfo). nat_le (length k.replicas) i.repl) k.info true) settled in
      let known : k.info ≡ Some i = sym (found_info a pending lawful b slot k here block_there) ∙ e in
      let few : nat_le (length k.replicas) i.repl ≡ true = sym (ap (λ o. option_map_or (λ (j : BlockInfo). nat_le (length k.replicas) j.repl) o true) known) ∙ h.1 in
      let all = no_more (λ _ m. is_usable m) k.replicas in
      let many = as_many a pending lawful b slot k here block_there (λ _ m. is_usable m) in
      let le : length k.replicas ≤ i.repl = grind (arith, nat_tests, few) in
      omega (arith, le, all, many)
