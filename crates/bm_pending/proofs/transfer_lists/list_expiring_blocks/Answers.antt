use Rattle.std.proofs.Common.{◌≡◌, ℕ, Bool, ◌++◌, ◌∷◌, [], true, false, filter, map, nat_eq, ap, sym, subst, ◌∙◌}
use Rattle.std.specs.Cmp.{nat_eq_equiv}
use Rattle.std.specs.List.{list_any, IsDistinct}
use Rattle.std.specs.Map.{keys_of}
use Rattle.std.specs.Map.Iter.{deref_pair}
use Rattle.std.proofs.lemmas.List.{append-nil}
use Rattle.std.proofs.lemmas.List.Sorted.{IsNonDecreasingBy-from_sort, list_any-IsPermutation}
use Rattle.std.proofs.lemmas.Map.Keys.{IsDistinct-IsPermutation}
use Rattle.std.proofs.lemmas.Map.Made.{IsDistinct-keys_filter}
use Rattle.std.proofs.lemmas.Iterator.Consumers.{YieldsList-end, YieldsList-from_rest}
use Rattle.bm_base.specs.Machine.RoundStart.{is_expired}
use Rattle.bm_pending.specs.Inside.{PendingTargets}
use Rattle.bm_pending.proofs.Blocks.{keys-passed_more, none-passing}
use Rattle.bm_pending.proofs.transfer_lists.list_expiring_blocks.Goals as goal

abbrev has_old : ℕ → ℕ → ℕ × PendingTargets → Bool
has_old pend r e = list_any (λ t. is_expired pend r t.1) e.1.items

pub loop-block-init : goal.loop-block-init
loop-block-init c = c.new-numbers.ensures.items

pub loop-block-preserved-in-Continue-1 : goal.loop-block-preserved-in-Continue-1
loop-block-preserved-in-Continue-1 c =
    let old = has_old c.args.pend c.args.round in
    let is : old (deref_pair (c.in-Some.block, c.in-Some.targets)) ≡ true = ap (list_any (λ t. is_expired c.args.pend c.args.round t.1)) (sym c.as_slice.ensures) ∙ sym c.has_expired.ensures ∙ c.if-has_expired.true in
    c.in_ok-push.ensures.items
    ∙ ap (λ ks. ks ++ c.in-Some.block.now ∷ []) c.loop-block.invariant
    ∙ sym (keys-passed_more deref_pair old c.loop-block.yielded (c.in-Some.block, c.in-Some.targets) true is)

pub loop-block-preserved : goal.loop-block-preserved
loop-block-preserved c =
    let old = has_old c.args.pend c.args.round in
    let is : old (deref_pair (c.in-Some.block, c.in-Some.targets)) ≡ false = ap (list_any (λ t. is_expired c.args.pend c.args.round t.1)) (sym c.as_slice.ensures) ∙ sym c.has_expired.ensures ∙ c.if-has_expired.false in
    c.loop-block.invariant
    ∙ sym (append-nil (keys_of (filter old (map deref_pair c.loop-block.yielded))))
    ∙ sym (keys-passed_more deref_pair old c.loop-block.yielded (c.in-Some.block, c.in-Some.targets) false is)

-- the loop has visited all blocks
numbers_are : (c : goal.In_ok-sort) → c.loop-block.numbers.items ≡ keys_of (filter (has_old c.args.pend c.args.round) c.args.blocks.now.entries)
numbers_are c =
    let end = YieldsList-end (YieldsList-from_rest c.args.blocks.now.entries (c.into_iter-block-iterator.ensures.into_iter_gives ∙ c.iter-block-items.ensures.rest)) c.loop-block.yielded _ c.loop-block.yielded_by _ _ c.in-None.is c.next.ensures.steps in
    c.loop-block.invariant ∙ ap (λ es. keys_of (filter (has_old c.args.pend c.args.round) es)) end.0

pub returns-clause-ascending : goal.returns-clause-ascending
returns-clause-ascending c = IsNonDecreasingBy-from_sort (λ x. x) c.sort.new.self.items c.in_ok-sort.ensures.sorted

pub returns-clause-distinct : goal.returns-clause-distinct
returns-clause-distinct c =
    IsDistinct-IsPermutation nat_eq nat_eq_equiv.symm c.loop-block.numbers.items c.sort.new.self.items c.sort.ensures.permutation
    (subst (IsDistinct nat_eq) (sym (numbers_are c)) (IsDistinct-keys_filter nat_eq (has_old c.args.pend c.args.round) c.args.blocks.now.entries c.iter-block-items.ensures.unique))

pub returns-clause-absent : goal.returns-clause-absent
returns-clause-absent c b none =
    none-passing c.args.blocks.now.entries c.iter-block-items.ensures.unique (λ t. is_expired c.args.pend c.args.round t.1) c.loop-block.numbers.items (numbers_are c) b
    (list_any-IsPermutation (nat_eq b) c.loop-block.numbers.items c.sort.new.self.items c.sort.ensures.permutation ∙ none)
