use Rattle.std.proofs.Common.{◌≡◌, ℕ, Some, List, rules, sym, subst}
use Rattle.std.specs.List.{All}
use Rattle.std.specs.List.Sorted.{IsPermutation}
use Rattle.std.proofs.lemmas.List.Sorted.{answers_always}
use Rattle.bm_arena.specs.Contents.{slot_of}
use Rattle.bm_queries.proofs.KnownBlocks.{sorted_blocks, slots_found}
use Rattle.bm_queries.proofs.rows.known_blocks.Goals as goal

pub returns-clause-blocks : goal.returns-clause-blocks
returns-clause-blocks c =
    let P : List (ℕ × ℕ) → Type 0 = λ xs. IsPermutation xs c.sort_by_key.new.self.items in
    sorted_blocks c.args.arena.now c.show_invariant.ensures c.sort_by_key.new.self.items (subst P c.in_ok-known.ensures.items c.sort_by_key.ensures.permutation)
    (c.in_ok-sort_by_key.ensures.sorted (λ (p : ℕ × ℕ). p.0) (answers_always _ _ _ (λ f a r g h. search rules)))

pub returns-clause-slots : goal.returns-clause-slots
returns-clause-slots c =
    let a = c.args.arena.now in
    subst (All (λ (p : ℕ × ℕ). slot_of a p.0 ≡ Some p.1)) (sym (returns-clause-blocks c)) (slots_found a c.show_invariant.ensures)
