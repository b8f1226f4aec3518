-- The numbers of a shard, taken run by run, are all of its numbers in a report.
use Rattle.std.proofs.Common.{◌≡◌, ◌≢◌, ℕ, zero, suc, ◌+◌, ◌-◌, ◌<◌, ◌≤◌, ◌%◌, ◌*◌, ◌/◌, inl, inr, cond, List, [], ◌∷◌, ◌++◌, map, drop, Some, sym, ap, ◌∙◌, arith, append_assoc, add-one}
use Rattle.std.specs.Prelude.{slice_get, length}
use Rattle.std.proofs.lemmas.Bool.{ne_eqb, eq-eqb, cases_lt}
use Rattle.std.proofs.lemmas.Nat.{div-add-mod'}
use Rattle.std.proofs.Math.Nat.{mul-add-mod_self_right, mod-eq_of_lt}
use Rattle.std.specs.List.{flat_map}
use Rattle.std.proofs.lemmas.List.Elements.{filter-append}
use Rattle.std.proofs.lemmas.Grind.{flat_map-append}
use Rattle.std.proofs.lemmas.List.{append-nil}
use Rattle.bm_base.specs.declared.event.Entry.{Entry}
use Rattle.bm_base.specs.declared.ids.Part.{Part}
use Rattle.bm_base.specs.declared.replica.Stamp.{Stamp}
use Rattle.bm_base.specs.Machine.Entries.{ReportedBlock, range_from, blocks_of_entry, expanded, run_length}
use Rattle.bm_base.specs.Shards.{shard_of}
use Rattle.bm_report.proofs.PartialReport.{drop_next, drop_all}
use Rattle.bm_report.specs.ReportedBlocks.{of_part, reported_to_part}

-- the numbers of an entry from b on, with its stamp
abbrev pub reported_from : Entry → ℕ → List ReportedBlock
reported_from e b = map (λ n. record { id = n; stamp = e.stamp }) (range_from b (e.to + 1 - b))

abbrev reported_of_all : Stamp → List ℕ → List ReportedBlock
reported_of_all t bs = map (λ n. record { id = n; stamp = t }) bs

-- the next numbers of other shards are skipped
passed : (p : Part) (t : Stamp) (k b n : ℕ) → ((i : ℕ) → i < k → shard_of (b + i) p.shards ≢ p.index)
    → of_part p (reported_of_all t (range_from b n)) ≡ of_part p (reported_of_all t (range_from (b + k) (n - k)))
passed p t zero b n apart = let e : b + 0 ≡ b = omega arith in let f : n - 0 ≡ n = omega arith in λ i. of_part p (reported_of_all t (range_from (sym e i) (sym f i)))
passed p t (suc k) b zero apart = let f : 0 - suc k ≡ 0 = omega arith in λ i. of_part p (reported_of_all t (range_from (b + suc k) (sym f i)))
passed p t (suc k) b (suc n) apart =
    let here : shard_of b p.shards ≢ p.index = let e : b + 0 ≡ b = omega arith in λ h. apart 0 (omega arith) (ap (λ c. shard_of c p.shards) e ∙ h) in
    let on : b + suc k ≡ suc b + k = omega arith in
    let less : suc n - suc k ≡ n - k = omega arith in
    ap (λ c. cond c (record { id = b; stamp = t } ∷ of_part p (reported_of_all t (range_from (suc b) n))) (of_part p (reported_of_all t (range_from (suc b) n)))) (ne_eqb (shard_of b p.shards) p.index here)
    ∙ passed p t k (suc b) n (λ i below. let e : suc b + i ≡ b + suc i = omega arith in λ h. apart (suc i) (omega (arith, below)) (ap (λ c. shard_of c p.shards) (sym e) ∙ h))
    ∙ (λ i. of_part p (reported_of_all t (range_from (sym on i) (sym less i))))

suc_times : (k s : ℕ) → suc k * s ≡ k * s + s
suc_times k s = grind arith

-- the remainder of a number that is given by quotient and remainder
remainder : (k i s : ℕ) → i < s → (k * s + i) % s ≡ i
remainder k i s below = mul-add-mod_self_right k s i ∙ mod-eq_of_lt below

-- different numbers that are less than s apart have different remainders
differs : (x d s r : ℕ) → 0 < d → d < s → r < s → x % s ≡ r → (x + d) % s ≢ r
differs x d s r some below small is same =
    let parts : x / s * s + x % s ≡ x = div-add-mod' x s in
    elim (cases_lt (r + d) s) [
      | inl under ↦
          let e : x + d ≡ x / s * s + (r + d) = omega (arith, parts, is) in
          let f : r + d ≡ r = sym (remainder (x / s) (r + d) s under) ∙ ap (λ n. n % s) (sym e) ∙ same in
          absurd (omega (arith, f, some))
      | inr over ↦
          let g : suc (x / s) * s ≡ x / s * s + s = suc_times (x / s) s in
          let e : x + d ≡ suc (x / s) * s + (r + d - s) = omega (arith, parts, is, g, over) in
          let f : r + d - s ≡ r = sym (remainder (suc (x / s)) (r + d - s) s (omega (arith, over, below, small))) ∙ ap (λ n. n % s) (sym e) ∙ same in
          absurd (omega (arith, f, some, below, over))
    ]

-- the first number of a part from b on: b plus the difference of the remainders
pub ahead : (b g s r i : ℕ) → b % s ≡ r → i < s → r ≤ i → g ≡ i - r → (b + g) % s ≡ i
ahead b g s r i is small under gap =
    let parts : b / s * s + b % s ≡ b = div-add-mod' b s in
    let e : b + g ≡ b / s * s + i = omega (arith, parts, is, gap, under) in
    ap (λ n. n % s) e ∙ remainder (b / s) i s small

pub around : (b g s r i : ℕ) → b % s ≡ r → r < s → i < s → i < r → g ≡ i + s - r → (b + g) % s ≡ i
around b g s r i is below small over gap =
    let parts : b / s * s + b % s ≡ b = div-add-mod' b s in
    let t : suc (b / s) * s ≡ b / s * s + s = suc_times (b / s) s in
    let e : b + g ≡ suc (b / s) * s + i = omega (arith, parts, is, gap, over, below, t) in
    ap (λ n. n % s) e ∙ remainder (suc (b / s)) i s small

-- the part's numbers of an entry from one of them on are this one and those from the next one on
pub reported_next : (p : Part) (e : Entry) (b : ℕ) → p.index < p.shards → shard_of b p.shards ≡ p.index → b ≤ e.to
    → of_part p (reported_from e b) ≡ record { id = b; stamp = e.stamp } ∷ of_part p (reported_from e (b + p.shards))
reported_next p e b small own within =
    let more : e.to + 1 - b ≡ suc (e.to - b) = omega (arith, within) in
    let on : suc b + (p.shards - 1) ≡ b + p.shards = omega (arith, small) in
    let less : e.to - b - (p.shards - 1) ≡ e.to + 1 - (b + p.shards) = omega (arith, small, within) in
    ap (λ n. of_part p (reported_of_all e.stamp (range_from b n))) more
    ∙ ap (λ c. cond c (record { id = b; stamp = e.stamp } ∷ of_part p (reported_of_all e.stamp (range_from (suc b) (e.to - b)))) (of_part p (reported_of_all e.stamp (range_from (suc b) (e.to - b))))) (eq-eqb _ _ own)
    ∙ ap (λ l. record { id = b; stamp = e.stamp } ∷ l)
    (passed p e.stamp (p.shards - 1) (suc b) (e.to - b) (λ i below.
    let t : suc b + i ≡ b + (i + 1) = omega arith in
    λ h. differs b (i + 1) p.shards p.index (omega arith) (omega (arith, below)) small own (ap (λ n. n % p.shards) (sym t) ∙ h))
    ∙ (λ i. of_part p (reported_of_all e.stamp (range_from (on i) (less i)))))

-- the part's numbers of an entry are those from the first one of the part on
pub reported_first : (p : Part) (e : Entry) (b : ℕ) → p.index < p.shards → shard_of b p.shards ≡ p.index → e.from ≤ b → b < e.from + p.shards → of_part p (blocks_of_entry e) ≡ of_part p (reported_from e b)
unfolding blocks_of_entry
reported_first p e b small own from near =
    let k : ℕ = b - e.from in
    let on : e.from + (b - e.from) ≡ b = omega (arith, from) in
    let less : e.to + 1 - e.from - (b - e.from) ≡ e.to + 1 - b = omega (arith, from) in
    passed p e.stamp (b - e.from) e.from (run_length e) (λ i below h.
    let t : e.from + i + (b - e.from - i) ≡ b = omega (arith, below, from) in
    differs (e.from + i) (b - e.from - i) p.shards p.index (omega (arith, below)) (omega (arith, near, from)) small h (ap (λ n. n % p.shards) t ∙ own))
    ∙ (λ i. of_part p (reported_of_all e.stamp (range_from (on i) (less i))))

pub reported_past : (p : Part) (e : Entry) (b : ℕ) → e.to < b → of_part p (reported_from e b) ≡ []
reported_past p e b past = let none : e.to + 1 - b ≡ 0 = omega (arith, past) in ap (λ n. of_part p (reported_of_all e.stamp (range_from b n))) none

-- one more number of a run is looked up
pub run_step : (p : Part) (e : Entry) (b : ℕ) (xs ys all : List ReportedBlock) → p.index < p.shards → shard_of b p.shards ≡ p.index → b ≤ e.to
    → xs ++ of_part p (reported_from e b) ≡ all → ys ≡ xs ++ record { id = b; stamp = e.stamp } ∷ [] → ys ++ of_part p (reported_from e (b + p.shards)) ≡ all
run_step p e b xs ys all small own within so_far is =
    ap (λ l. l ++ of_part p (reported_from e (b + p.shards))) is ∙ append_assoc xs (record { id = b; stamp = e.stamp } ∷ []) (of_part p (reported_from e (b + p.shards)))
    ∙ sym (ap (λ l. xs ++ l) (reported_next p e b small own within)) ∙ so_far

-- one more entry is looked up
pub reported_on : (p : Part) (es : List Entry) (i : ℕ) (e : Entry) (xs ys all : List ReportedBlock) → slice_get es i ≡ Some e → xs ++ of_part p (expanded (drop i es)) ≡ all
    → ys ≡ xs ++ of_part p (blocks_of_entry e) → ys ++ of_part p (expanded (drop (i + 1) es)) ≡ all
unfolding expanded
reported_on p es i e xs ys all at so_far is =
    ap (λ l. l ++ of_part p (expanded (drop (i + 1) es))) is ∙ append_assoc xs (of_part p (blocks_of_entry e)) (of_part p (expanded (drop (i + 1) es)))
    ∙ sym (ap (λ l. xs ++ l) (ap (λ l. of_part p (expanded l)) (drop_next es i e at ∙ ap (λ n. e ∷ drop n es) (sym (add-one i))) ∙ filter-append _ (blocks_of_entry e) (expanded (drop (i + 1) es)))) ∙ so_far

pub reported_end : (p : Part) (es : List Entry) (i : ℕ) (xs all : List ReportedBlock) → length es ≤ i → xs ++ of_part p (expanded (drop i es)) ≡ all → xs ≡ all
unfolding expanded
reported_end p es i xs all past so_far = sym (append-nil xs) ∙ sym (ap (λ l. xs ++ of_part p (expanded l)) (drop_all es i past)) ∙ so_far

-- the reported numbers of two lists of entries are those of the one and those of the other
pub reported_both : (p : Part) (es fs : List Entry) → reported_to_part p (es ++ fs) ≡ reported_to_part p es ++ reported_to_part p fs
unfolding expanded
reported_both p es fs = ap (of_part p) (flat_map-append blocks_of_entry es fs) ∙ filter-append _ (flat_map blocks_of_entry es) (flat_map blocks_of_entry fs)

-- one more chunk is looked up
pub chunk_on : (p : Part) (es fs : List Entry) (xs ys all : List ReportedBlock) → xs ++ reported_to_part p (es ++ fs) ≡ all → ys ≡ xs ++ reported_to_part p es
    → ys ++ reported_to_part p fs ≡ all
chunk_on p es fs xs ys all so_far is =
    ap (λ l. l ++ reported_to_part p fs) is ∙ append_assoc xs (reported_to_part p es) (reported_to_part p fs) ∙ sym (ap (λ l. xs ++ l) (reported_both p es fs)) ∙ so_far

pub chunks_end : (p : Part) (xs all : List ReportedBlock) → xs ++ reported_to_part p [] ≡ all → xs ≡ all
unfolding expanded
chunks_end p xs all so_far = sym (append-nil xs) ∙ so_far

-- the reported numbers of the remaining entries are those of the next one and of those after it
pub reported_rest : (p : Part) (es : List Entry) (i : ℕ) (e : Entry) → slice_get es i ≡ Some e → of_part p (expanded (drop i es)) ≡ of_part p (blocks_of_entry e) ++ of_part p (expanded (drop (i + 1) es))
unfolding expanded
reported_rest p es i e at =
    ap (λ l. of_part p (expanded l)) (drop_next es i e at ∙ ap (λ n. e ∷ drop n es) (sym (add-one i))) ∙ filter-append _ (blocks_of_entry e) (expanded (drop (i + 1) es))

pub reported_out : (p : Part) (es : List Entry) (i : ℕ) → length es ≤ i → of_part p (expanded (drop i es)) ≡ []
unfolding expanded
reported_out p es i past = ap (λ l. of_part p (expanded l)) (drop_all es i past)
