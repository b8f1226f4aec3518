-- An iteration that reads the next slot before it reclassifies one resets excess marks at each.
use Rattle.std.specs.Prelude.{◌≡◌, ◌≢◌, ◌+◌, ◌<◌, ◌≤◌, ℕ, List, [], ◌∷◌, length, Option, Some, None}
use Rattle.std.proofs.Common.{refl, sym, ap, subst, ◌∙◌, arith, inl, inr}
use Rattle.bm_base.specs.Machine.RoundStart.{with_excess_reset}
use Rattle.bm_maps.specs.SlotLists.{IsMember, Distinct}
use Rattle.bm_queues.specs.Walks.{slots_from, IsOn, IsPast}
use Rattle.bm_arena.specs.Contents.{block_at, KeepsEntries}
use Rattle.bm_arena.specs.HeldMaps.{replicas_at}
use Rattle.bm_arena.proofs.StableEntries.{entries-none, entries-chain}
use Rattle.bm_levels.specs.Changes.{all_changed}
use Rattle.bm_levels.specs.IndexedLevels.{KeepsAhead}
use Rattle.bm_levels.specs.LeveledBlocks.{Leveled}
use Rattle.bm_levels.proofs.DroppedMarks.{IsBegun, begun_none, begun_more, begun_all, begun_others}

abbrev unsettled_in : Leveled → List ℕ
unsettled_in v = v.level_index.unsettled.slots

-- After `step` steps the iteration is at a slot or at the end. The slots from there on are still to
-- come, and at most `end` steps are needed.
pub record IsGoing (old now : Leveled) (at : Option ℕ) (step end : ℕ) : Type 0 where
  pub begun : IsBegun old.arena now.arena (unsettled_in old) (slots_from (unsettled_in now) at)
  pub once : Distinct (slots_from (unsettled_in now) at)
  pub on : IsOn at (unsettled_in now)
  pub few : step + length (slots_from (unsettled_in now) at) ≤ end
  pub listed : (z : ℕ) → IsMember z (slots_from (unsettled_in now) at) → IsMember z (unsettled_in old)
  pub entries : KeepsEntries old.arena now.arena

pub going_first : (v : Leveled) (at : Option ℕ) (end : ℕ) → Distinct (unsettled_in v) → IsOn at (unsettled_in v) → slots_from (unsettled_in v) at ≡ unsettled_in v → end ≡ length (unsettled_in v)
    → IsGoing v v at 0 end
going_first v at end once on all count =
    let P : List ℕ → Type 0 = λ xs. IsBegun v.arena v.arena (unsettled_in v) xs in
    let Q : List ℕ → Type 0 = λ xs. Distinct xs in
    let many = ap length all in
    record {
      begun = subst P (sym all) (begun_none v.arena (unsettled_in v));
      once = subst Q (sym all) once;
      on = on;
      few = omega (arith, many, count);
      listed = λ z h. let R : List ℕ → Type 0 = λ xs. IsMember z xs in subst R all h;
      entries = entries-none v.arena;
    }

module _ (old now : Leveled) (at : Option ℕ) (step end : ℕ) (h : IsGoing old now at step end) where
  -- the iteration is at a slot
  module _ (x : ℕ) (then : Option ℕ) (here : at ≡ Some x) (next : slots_from (unsettled_in now) (Some x) ≡ x ∷ slots_from (unsettled_in now) then) where
    left_is : slots_from (unsettled_in now) at ≡ x ∷ slots_from (unsettled_in now) then
    left_is = ap (slots_from (unsettled_in now)) here ∙ next

    going_listed : IsMember x (unsettled_in old)
    going_listed = let P : List ℕ → Type 0 = λ xs. IsMember x xs in h.listed x (subst P (sym left_is) (inl refl))

    pub going_more : (new : Leveled) → IsOn then (unsettled_in now) → IsPast x then (unsettled_in now)
        → replicas_at new.arena x ≡ all_changed with_excess_reset (replicas_at now.arena x) → ((other : ℕ) → other ≢ x → block_at new.arena other ≡ block_at now.arena other)
        → KeepsEntries now.arena new.arena → KeepsAhead x (unsettled_in now) (unsettled_in new) → IsGoing old new then (step + 1) end
    going_more new on past changed others entries ahead =
        let P : List ℕ → Type 0 = λ xs. IsBegun old.arena now.arena (unsettled_in old) xs in
        let Q : List ℕ → Type 0 = λ xs. IsBegun old.arena new.arena (unsettled_in old) xs in
        let D : List ℕ → Type 0 = λ xs. Distinct xs in
        let once : Distinct (x ∷ slots_from (unsettled_in now) then) = subst D left_is h.once in
        let still = ahead.rest then past in
        let many = ap length left_is in
        let as_many = ap length still in
        let few = h.few in
        record {
          begun = subst Q (sym still) (begun_more old.arena now.arena new.arena (unsettled_in old) (slots_from (unsettled_in now) then) x going_listed once (subst P left_is h.begun) changed others);
          once = subst D (sym still) once.1;
          on = ahead.on then past on;
          few = omega (arith, few, many, as_many);
          listed = λ z there. let R : List ℕ → Type 0 = λ xs. IsMember z xs in h.listed z (subst R (sym left_is) (inr (subst R still there)));
          entries = entries-chain old.arena now.arena new.arena h.entries entries;
        }

  -- the iteration is at the end
  pub going_none : at ≡ None → step < end → IsGoing old now at (step + 1) end
  going_none none lt =
      let empty : length (slots_from (unsettled_in now) at) ≡ 0 = ap (λ o. length (slots_from (unsettled_in now) o)) none in
      record { begun = h.begun; once = h.once; on = h.on; few = omega (arith, empty, lt); listed = h.listed; entries = h.entries }

  -- no slot is left after all steps
  all_gone : end ≤ step → slots_from (unsettled_in now) at ≡ []
  all_gone past = by (slots_from (unsettled_in now) at) h.few
    where
      by : (xs : List ℕ) → step + length xs ≤ end → xs ≡ []
      by [] few = refl
      by (x ∷ xs) few = absurd (omega (arith, few, past))

  pub going_begun : end ≤ step → (slot : ℕ) → IsMember slot (unsettled_in old) → replicas_at now.arena slot ≡ all_changed with_excess_reset (replicas_at old.arena slot)
  going_begun past =
      let P : List ℕ → Type 0 = λ xs. IsBegun old.arena now.arena (unsettled_in old) xs in
      begun_all old.arena now.arena (unsettled_in old) (subst P (all_gone past) h.begun)

  pub going_others : (slot : ℕ) → (IsMember slot (unsettled_in old) → ⊥) → block_at now.arena slot ≡ block_at old.arena slot
  going_others = begun_others old.arena now.arena (unsettled_in old) (slots_from (unsettled_in now) at) h.begun
