use Rattle.std.proofs.Common.{◌≡◌, ◌⊎◌, ℕ, Bool, true, false, List, inl, inr, refl, sym, ◌∙◌, arith, true≢false}
use Rattle.std.specs.Prelude.{nat_lt, IsTrue, ◌↔◌}
use Rattle.std.proofs.lemmas.Bool.{cases_Bool}
use Rattle.std.proofs.lemmas.Bool.Decides.{nat_tests}
use Rattle.bm_base.specs.Maps.Lists.{has}
use Rattle.bm_maps.specs.SlotLists.{IsMember}
use Rattle.bm_levels.proofs.EqualLists.{has_among, among_has}
use Rattle.bm_levels.proofs.level_index.LevelIndex.is_unsettled.Goals as goal

absent : (xs : List ℕ) (x : ℕ) → (IsMember x xs → ⊥) → has xs x ≡ false
absent xs x none = by (cases_Bool (has xs x))
  where
    by : ((has xs x ≡ true) ⊎ (has xs x ≡ false)) → has xs x ≡ false
    by (inl h) = absurd (none (has_among xs x h))
    by (inr h) = h

decided : (b : Bool) (xs : List ℕ) (x : ℕ) → (IsTrue b ↔ IsMember x xs) → b ≡ has xs x
decided true xs x h = sym (among_has xs x (h.0 refl))
decided false xs x h = sym (absent xs x (λ there. true≢false (sym (h.1 there))))

pub returns-then-slot-capacity : goal.returns-then-slot-capacity
returns-then-slot-capacity c = decided c.contains.result c.args.self.now.unsettled.slots c.args.slot (rw (← c.self.view_is) c.contains.ensures)

pub returns-else-slot-capacity : goal.returns-else-slot-capacity
returns-else-slot-capacity c =
    let none : has c.args.self.now.unsettled.slots c.args.slot ≡ false =
    rw (← c.self.view_is) (absent c.self.inside.unsettled.slots c.args.slot (λ there. let below = c.show_invariant.ensures.lawful.below c.args.slot there in omega (arith, below, c.if-slot-capacity.false, c.capacity.ensures))) in
    let above : nat_lt c.args.slot c.capacity.result ≡ false = grind (arith, nat_tests, c.if-slot-capacity.false) in
    above ∙ sym none
