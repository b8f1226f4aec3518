-- A number's level is that of its slot, so levels are right by number exactly if right by slot.
use Rattle.std.proofs.Common.{◌≡◌, ℕ, Bool, true, false, cond, List, [], ◌∷◌, Option, Some, None, refl, inl, inr, sym, ap, ◌∙◌}
use Rattle.std.specs.Prelude.{◌==◌, nat_eq}
use Rattle.std.specs.Option.{option_map_or, option_and_then}
use Rattle.std.specs.Map.{lookup}
use Rattle.std.specs.Ordering.{eq_by_cmp}
use Rattle.std.proofs.lemmas.Bool.{cases_eq}
use Rattle.bm_base.specs.declared.replica.Level.{Level}
use Rattle.bm_base.specs.Words.{Map, by_number, get, insert, remove, Cluster, by_replica, rack_of, is_draining, is_multi_rack, level}
use Rattle.bm_base.proofs.MapLaws.{get-empty, get-insert, get-remove}
use Rattle.bm_base.proofs.Ties.{number_tie}
use Rattle.bm_arena.specs.Triplets.{Block}
use Rattle.bm_arena.specs.Contents.{block_at, slot_of, IsLawful}
use Rattle.bm_arena.specs.HeldMaps.{info_at}
use Rattle.bm_levels.specs.IndexedLevels.{IndexedLevels, level_of_slot}
use Rattle.bm_levels.specs.LeveledBlocks.{Leveled, AreLevels, IsLeveled}
use Rattle.bm_levels.specs.Status.{level_in}
use Rattle.bm_levels.specs.SlotHoldings.{holdings_with}
use Rattle.bm_levels.proofs.StatusByCounts.{level_unknown}
use Rattle.bm_levels.proofs.Levels.{level_is_at_slot}
use Rattle.bm_shard.specs.Inside.{levels_among, levels_of}

set_out : (t : Bool) (o : Option Level) (z : Option Level) → option_map_or (λ i. cond t (Some i) z) o (cond t None z) ≡ cond t o z
set_out true None z = refl
set_out true (Some i) z = refl
set_out false None z = refl
set_out false (Some i) z = refl

then_cond : (f : ℕ → Option Level) (t : Bool) (x : ℕ) (z : Option ℕ) → option_and_then f (cond t (Some x) z) ≡ cond t (f x) (option_and_then f z)
then_cond f true x z = refl
then_cond f false x z = refl

get-levels_among : (K : IndexedLevels) (ps : List (ℕ × ℕ)) (b : ℕ) → get (levels_among K ps) b ≡ option_and_then (level_of_slot K) (lookup (nat_eq b) ps)
get-levels_among K [] b = get-empty by_number b
get-levels_among K (p ∷ ps) b =
    read (level_of_slot K p.1)
    ∙ (λ i. option_map_or (λ x. cond (number_tie b p.0 i) (Some x) (get-levels_among K ps b i)) (level_of_slot K p.1) (cond (number_tie b p.0 i) None (get-levels_among K ps b i)))
    ∙ set_out (b == p.0) (level_of_slot K p.1) (option_and_then (level_of_slot K) (lookup (nat_eq b) ps))
    ∙ sym (then_cond (level_of_slot K) (b == p.0) p.1 (lookup (nat_eq b) ps))
  where
    read : (o : Option Level) → get (option_map_or (λ i. insert (levels_among K ps) p.0 i) o (remove (levels_among K ps) p.0)) b
        ≡ option_map_or (λ i. cond (eq_by_cmp by_number.cmp b p.0) (Some i) (get (levels_among K ps) b)) o (cond (eq_by_cmp by_number.cmp b p.0) None (get (levels_among K ps) b))
    read None = get-remove (levels_among K ps) p.0 b
    read (Some i) = get-insert (levels_among K ps) p.0 i b

-- the level of a number is that of its slot
pub get-levels_of : (v : Leveled) (b : ℕ) → get (levels_of v) b ≡ option_and_then (level_of_slot v.level_index) (slot_of v.arena b)
unfolding levels_of
get-levels_of v b = get-levels_among v.level_index v.arena.ids b

-- if the levels of the slots are right in a cluster, so are those of the numbers
pub right_by_number : (C : Cluster) (v : Leveled) (P : Map by_replica ℕ) → IsLawful v.arena → AreLevels C v → (b : ℕ) → get (levels_of v) b ≡ level C (holdings_with v.arena P) b
right_by_number C v P lawful right b = get-levels_of v b ∙ at (slot_of v.arena b) ∙ sym (level_is_at_slot C v.arena P b lawful)
  where
    at : (o : Option ℕ) → option_and_then (level_of_slot v.level_index) o ≡ option_and_then (λ slot. level_in C (block_at v.arena slot)) o
    at None = refl
    at (Some slot) = right slot

-- if the levels of the numbers are right, so are those of the slots
pub right_by_slot : (C : Cluster) (v : Leveled) (P : Map by_replica ℕ) → IsLawful v.arena → IsLeveled v → ((b : ℕ) → get (levels_of v) b ≡ level C (holdings_with v.arena P) b) → AreLevels C v
right_by_slot C v P lawful leveled right slot = at (block_at v.arena slot) refl
  where
    unknown : info_at v.arena slot ≡ None → level_of_slot v.level_index slot ≡ level_in C (block_at v.arena slot)
    unknown h = leveled.unknown slot h ∙ (level_unknown (rack_of C) (is_draining C) (is_multi_rack C) (block_at v.arena slot) h)

    led : (b : ℕ) → slot_of v.arena b ≡ Some slot → level_of_slot v.level_index slot ≡ level_in C (block_at v.arena slot)
    led b is =
        ap (option_and_then (level_of_slot v.level_index)) (sym is) ∙ sym (get-levels_of v b) ∙ right b ∙ level_is_at_slot C v.arena P b lawful
        ∙ ap (option_and_then (λ x. level_in C (block_at v.arena x))) is

    at : (o : Option Block) → block_at v.arena slot ≡ o → level_of_slot v.level_index slot ≡ level_in C (block_at v.arena slot)
    at None e = unknown (ap (option_and_then (λ (b : Block). b.info)) e)
    at (Some k) e = elim (cases_eq slot v.arena.delimiter) [
      | inl same ↦ unknown (ap (info_at v.arena) same ∙ leveled.blank)
      | inr differs ↦ led k.id (lawful.known slot k e differs)
    ]
