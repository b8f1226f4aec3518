-- The counts of blocks by file stay right as blocks are counted.
use Rattle.std.proofs.Common.{◌≡◌, ◌≢◌, ℕ, ◌+◌, ◌-◌, ◌<◌, ◌^◌, min, Bool, true, false, cond, ◌==◌, List, [], Option, Some, None, length, take, set, get_or, replicate, arith, refl, sym, ap, subst, ◌∙◌}
use Rattle.std.specs.Prelude.{nat_lt, count_by}
use Rattle.std.specs.Option.{option_map_or}
use Rattle.std.proofs.lemmas.Bool.{eqb-true, eqb-false, lt-ltb}
use Rattle.std.proofs.lemmas.Grind.{get_or-set_at}
use Rattle.std.proofs.lemmas.List.{get_or-set_other, get_or-replicate, length-set, length-take, length-replicate}
use Rattle.std.proofs.lemmas.List.Sums.{count_by_more_yes, count_by_more_no, count_by-le-length}
use Rattle.cluster_names.specs.FileTable.{FileTable, file_index_of}
use Rattle.cluster_names.specs.declared.files.FileIndex.{FileIndex}
use Rattle.cluster_pages.specs.AtRisk.{AreCounts, is_in, with_one, with_counted}

module _ (counts : List ℕ) (i : ℕ) where
  one_all : (b : Bool) → length (cond b (set counts i (min (get_or counts i 0 + 1) (2 ^ 64 - 1))) counts) ≡ length counts
  one_all true = length-set counts i _
  one_all false = refl

  one_here : i < length counts → get_or counts i 0 < 2 ^ 64 - 1 → get_or (with_one counts i) i 0 ≡ get_or counts i 0 + 1
  one_here lt few =
      ap (λ b. get_or (cond b (set counts i (min (get_or counts i 0 + 1) (2 ^ 64 - 1))) counts) i 0) (lt-ltb i (length counts) lt)
      ∙ get_or-set_at counts i i _ 0 refl lt
      ∙ (omega (arith, few))

  one_there : (j : ℕ) → i ≢ j → (b : Bool) → get_or (cond b (set counts i (min (get_or counts i 0 + 1) (2 ^ 64 - 1))) counts) j 0 ≡ get_or counts j 0
  one_there j apart true = get_or-set_other counts i j _ 0 (λ h. apart (sym h))
  one_there j apart false = refl

-- no file has a block so far
pub none_counted : (f : FileTable) → AreCounts f [] (replicate (length f.paths) 0)
none_counted f = record { all = length-replicate (length f.paths) 0; each = λ file lt. get_or-replicate (length f.paths) file 0 0 lt }

-- one more block is counted
pub counted_more : (f : FileTable) (blocks old new : List ℕ) (i d : ℕ) → i < length blocks → i < 2 ^ 64 - 1 → AreCounts f (take i blocks) old
    → new ≡ with_counted (file_index_of f (get_or blocks i d)) old → AreCounts f (take (i + 1) blocks) new
counted_more f blocks old new i d lt fits so_far e = by (file_index_of f (get_or blocks i d)) refl e
  where
    few : (file : ℕ) → file < length f.paths → get_or old file 0 < 2 ^ 64 - 1
    few file at = omega (arith, so_far.each file at, count_by-le-length (is_in f file) (take i blocks), length-take i blocks, fits)

    here : (p : FileIndex) → file_index_of f (get_or blocks i d) ≡ Some p → (file : ℕ) → file < length f.paths → (same : Bool) → (p.file == file) ≡ same
        → get_or (with_one old p.file) file 0 ≡ count_by (is_in f file) (take (i + 1) blocks)
    here p is file at true same =
        let this : p.file ≡ file = eqb-true p.file file same in
        let inside : p.file < length old = omega (arith, so_far.all, at, this) in
        ap (λ j. get_or (with_one old p.file) j 0) (sym this)
        ∙ one_here old p.file inside (subst (λ j. get_or old j 0 < 2 ^ 64 - 1) (sym this) (few file at))
        ∙ ap (λ j. get_or old j 0 + 1) this
        ∙ ap (λ n. n + 1) (so_far.each file at)
        ∙ sym (count_by_more_yes (is_in f file) blocks i d lt (ap (λ o. option_map_or (λ q. q.file == file) o false) is ∙ same))
    here p is file at false other =
        one_there old p.file file (eqb-false p.file file other) (nat_lt p.file (length old))
        ∙ so_far.each file at
        ∙ sym (count_by_more_no (is_in f file) blocks i d lt (ap (λ o. option_map_or (λ q. q.file == file) o false) is ∙ other))

    by : (o : Option FileIndex) → file_index_of f (get_or blocks i d) ≡ o → new ≡ with_counted o old → AreCounts f (take (i + 1) blocks) new
    by None is same = record {
      all = ap length same ∙ so_far.all;
      each = λ file at.
          ap (λ xs. get_or xs file 0) same ∙ so_far.each file at
          ∙ sym (count_by_more_no (is_in f file) blocks i d lt (ap (λ o. option_map_or (λ q. q.file == file) o false) is));
    }
    by (Some p) is same = record {
      all = ap length same ∙ one_all old p.file (nat_lt p.file (length old)) ∙ so_far.all;
      each = λ file at. ap (λ xs. get_or xs file 0) same ∙ here p is file at (p.file == file) refl;
    }
