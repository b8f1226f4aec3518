-- Showing or leaving out one row after another gives the shown rows in order.
use Rattle.std.proofs.Common.{◌≡◌, ℕ, ◌+◌, ◌<◌, ◌≤◌, Bool, true, false, cond, List, [], ◌∷◌, ◌++◌, length, get_or, drop, drop-cons, drop_of_length-le, append_assoc, append-nil, add-one, refl, sym, ap, ◌∙◌}
use Rattle.cluster_repair.specs.declared.rows.Row.{Row}
use Rattle.cluster_what_if.specs.ShownRows.{is_shown, shown_from}

next : (step count i : ℕ) (rows : List Row) (d : Row) → i < length rows → (b : Bool) → is_shown step count i ≡ b
    → shown_from step count i (drop i rows) ≡ cond b (get_or rows i d ∷ shown_from step count (i + 1) (drop (i + 1) rows)) (shown_from step count (i + 1) (drop (i + 1) rows))
unfolding shown_from
next step count i rows d less b is =
    let rest : drop i rows ≡ get_or rows i d ∷ drop (i + 1) rows = rw (add-one, drop-cons rows i d) refl in
    ap (shown_from step count i) rest
    ∙ ap (λ v. cond v (get_or rows i d ∷ shown_from step count (i + 1) (drop (i + 1) rows)) (shown_from step count (i + 1) (drop (i + 1) rows))) is

-- a row is shown
pub shown_next : (step count i : ℕ) (rows : List Row) (d : Row) → i < length rows → (all shown new : List Row) → is_shown step count i ≡ true
    → all ≡ shown ++ shown_from step count i (drop i rows) → new ≡ shown ++ get_or rows i d ∷ []
    → all ≡ new ++ shown_from step count (i + 1) (drop (i + 1) rows)
shown_next step count i rows d less all shown new is so_far e =
    so_far
    ∙ ap (λ l. shown ++ l) (next step count i rows d less true is)
    ∙ sym (append_assoc shown (get_or rows i d ∷ []) (shown_from step count (i + 1) (drop (i + 1) rows)))
    ∙ ap (λ l. l ++ shown_from step count (i + 1) (drop (i + 1) rows)) (sym e)

no_row : Row
no_row = record {
  round = 0;
  seconds = 0;
  levels = record { highest = 0; very_under_replicated = 0; under_replicated = 0; badly_distributed = 0; missing = 0; none = 0 };
  commanded = 0;
  on_way = 0;
}

-- a row is left out
pub left_out_next : (step count i : ℕ) (rows : List Row) → i < length rows → (all shown new : List Row) → is_shown step count i ≡ false
    → all ≡ shown ++ shown_from step count i (drop i rows) → new ≡ shown
    → all ≡ new ++ shown_from step count (i + 1) (drop (i + 1) rows)
left_out_next step count i rows less all shown new is so_far e =
    so_far
    ∙ ap (λ l. shown ++ l) (next step count i rows no_row less false is)
    ∙ ap (λ l. l ++ shown_from step count (i + 1) (drop (i + 1) rows)) (sym e)

-- no row is left
pub all_shown : (step count i : ℕ) (rows shown all : List Row) → length rows ≤ i
    → all ≡ shown ++ shown_from step count i (drop i rows) → shown ≡ all
unfolding shown_from
all_shown step count i rows shown all none so_far =
    sym (append-nil shown) ∙ sym (so_far ∙ ap (λ l. shown ++ shown_from step count i l) (drop_of_length-le rows none))
