use Rattle.std.proofs.Common.{◌≡◌, ℕ, List, [], ◌∷◌, ◌++◌, ap, sym, subst, ◌∙◌, arith, rules}
use Rattle.std.specs.List.Sorted.{IsPermutation}
use Rattle.std.proofs.lemmas.List.{append_assoc, append-nil}
use Rattle.std.proofs.lemmas.List.Sorted.{answers_always}
use Rattle.bm_base.specs.declared.replica.Marks.{Marks}
use Rattle.bm_base.specs.Words.{with_excess_reset}
use Rattle.bm_arena.specs.Contents.{block_at}
use Rattle.bm_levels.proofs.Slots.{next_at, none_at, end_at}
use Rattle.bm_round_scan.specs.BlockMarks.{excess_reset}
use Rattle.bm_round_scan.proofs.replicas.fill_at_round_start.Goals as goal
use Rattle.bm_round_scan.proofs.replicas.fill_at_round_start.Goals.{in-Some+in_ok-push, in_default}

-- one more is appended
one_put : (xs ys rs rest : List (ℕ × Marks)) (s : ℕ) (u m : Marks) → rs ≡ (s, m) ∷ rest → u ≡ with_excess_reset m → ys ≡ xs ++ (s, u) ∷ [] → ys ++ excess_reset rest ≡ xs ++ excess_reset rs
one_put xs ys rs rest s u m here reset is =
    ap (λ zs. zs ++ excess_reset rest) (is ∙ ap (λ v. xs ++ (s, v) ∷ []) reset) ∙ append_assoc xs ((s, with_excess_reset m) ∷ []) (excess_reset rest) ∙ ap (λ zs. xs ++ excess_reset zs) (sym here)

pub loop-at-preserved : goal.loop-at-preserved
loop-at-preserved c =
    let o = block_at c.args.arena.now c.args.slot in
    elim c.match-triplet_at.branch [
      | in-Some+in_ok-push w ↦
          one_put c.loop-at.into.items _ _ _ _ _ _ (next_at o c.loop-at.at _ (sym w.in-Some.ensures)) w.with_excess_reset.ensures (ap (λ v. v.items) w.into-is ∙ w.in_ok-push.ensures.items) ∙ c.loop-at.invariant
      | in_default w ↦ absurd (none_at o c.loop-at.at (sym w.in_default.ensures) (omega (arith, c.loop-at-test.true, c.triplet_count-at-end.ensures)))
    ]

pub returns : goal.returns
returns c =
    let past = end_at (block_at c.args.arena.now c.args.slot) c.loop-at.at (omega (arith, c.loop-at-test.false, c.triplet_count-at-end.ensures)) in
    let filled = sym (append-nil c.loop-at.into.items) ∙ ap (λ rs. c.loop-at.into.items ++ excess_reset rs) (sym past) ∙ c.loop-at.invariant in
    record {
      permutation = subst (λ rs. IsPermutation rs c.sort_unstable_by_key.new.self.items) filled c.sort_unstable_by_key.ensures.permutation;
      sorted = c.sort_unstable_by_key.ensures.sorted (λ (r : ℕ × Marks). r.0) (answers_always _ _ _ (λ f a r g h. search rules));
    }
