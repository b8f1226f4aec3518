-- With new blocks added one by one, a check of a storage's last replica excludes duplicates.
use Rattle.std.proofs.Common.{◌≡◌, ℕ, ◌+◌, ◌-◌, ◌≤◌, ◌==◌, ◌&&◌, ◌||◌, Bool, true, false, cond, nat_eq, List, [], ◌∷◌, ◌++◌, Some, map, length, length-append, refl, sym, ap, ◌∙◌, arith, true≢false}
use Rattle.std.specs.Prelude.{count_by, slice_get}
use Rattle.std.specs.List.{list_any, AllByRecursion}
use Rattle.std.specs.Option.{option_map_or}
use Rattle.std.specs.Str.{bytes_eq}
use Rattle.std.proofs.lemmas.List.Sums.{sum_by-cons, sum_by-append}
use Rattle.std.proofs.lemmas.List.Folds.{list_any-append}
use Rattle.std.proofs.lemmas.Bool.{or_parts}
use Rattle.fsck_text.specs.Cuts.{Text}
use Rattle.fsck_cluster.specs.Rows.{new_row, ends_with}
use Rattle.fsck_cluster.specs.declared.rows.StoredReplica.{StoredReplica}
use Rattle.fsck_cluster.specs.declared.rows.Row.{Row}
use Rattle.fsck_import.specs.Laws.{Replica, is_replica, EachOnce}
use Rattle.fsck_import.proofs.NameLemmas.{same_number, same_name, number_is_itself}
use Rattle.fsck_import.proofs.StorageLemmas.{Fit, on_row, on_rows, on_storage, holding}

-- the number of these replicas that are of a block
abbrev pub held_of : ℕ → List StoredReplica → ℕ
held_of id held = count_by (λ h. nat_eq id h.id) held

-- the replicas on a storage are of these blocks, each once, and one of this block is the last
pub record Once (numbers : List ℕ) (id : ℕ) (row : Row) : Type 0 where
  pub among : (other : ℕ) → list_any (nat_eq other) numbers ≡ false → held_of other row.held ≡ 0
  pub once : (other : ℕ) → held_of other row.held ≤ 1
  pub last : ends_with row id ≡ false → held_of id row.held ≡ 0

pub new_once : (numbers : List ℕ) (id number node : ℕ) → Once numbers id (new_row number node)
new_once numbers id number node = record {
  among = λ other e. refl;
  once = λ other. omega arith;
  last = λ e. refl;
}

held-push : (other : ℕ) (held : List StoredReplica) (h : StoredReplica) → held_of other (held ++ h ∷ []) ≡ held_of other held + cond (nat_eq other h.id) 1 0
held-push other held h = sum_by-append (λ x. cond (nat_eq other x.id) 1 0) held (h ∷ []) ∙ ap (λ n. held_of other held + n) (sum_by-cons (λ x. cond (nat_eq other x.id) 1 0) h [] ∙ omega arith)

last_is : (held : List StoredReplica) (h : StoredReplica) → slice_get (held ++ h ∷ []) (length held) ≡ Some h
last_is [] h = refl
last_is (x ∷ held) h = last_is held h

-- a storage with one more replica of a block ends with it
ends_with-push : (row : Row) (h : StoredReplica) → ends_with (holding row h) h.id ≡ true
ends_with-push row h =
    let at : length (row.held ++ h ∷ []) - 1 ≡ length row.held = omega (arith, length-append row.held (h ∷ [])) in
    ap (λ o. option_map_or (λ x. x.id == h.id) o false) (ap (slice_get (row.held ++ h ∷ [])) at ∙ last_is row.held h) ∙ number_is_itself h.id

not_among : (numbers : List ℕ) (id other : ℕ) → list_any (nat_eq id) numbers ≡ true → list_any (nat_eq other) numbers ≡ false → nat_eq other id ≡ false
not_among numbers id other known e = by (nat_eq other id) refl
  where
    by : (b : Bool) → nat_eq other id ≡ b → b ≡ false
    by false same = refl
    by true same = absurd (true≢false (sym known ∙ ap (λ n. list_any (nat_eq n) numbers) (sym (same_number other id same)) ∙ e))

-- one more replica of the block, if the storage's last one is of another
pub once_more : (numbers : List ℕ) (row : Row) (h : StoredReplica) → list_any (nat_eq h.id) numbers ≡ true → ends_with row h.id ≡ false → Once numbers h.id row → Once numbers h.id (holding row h)
once_more numbers row h known e before = record {
  among = λ other none.
      held-push other row.held h ∙ ap (λ b. held_of other row.held + cond b 1 0) (not_among numbers h.id other known none) ∙ omega (arith, before.among other none);
  once = λ other. by other (nat_eq other h.id) refl;
  last = λ none. absurd (true≢false (sym (ends_with-push row h) ∙ none));
}
  where
    by : (other : ℕ) (b : Bool) → nat_eq other h.id ≡ b → held_of other (row.held ++ h ∷ []) ≤ 1
    by other true same =
        let none : held_of other row.held ≡ 0 = ap (λ n. held_of n row.held) (same_number other h.id same) ∙ before.last e in
        let one : held_of other (row.held ++ h ∷ []) ≡ held_of other row.held + 1 = held-push other row.held h ∙ ap (λ b. held_of other row.held + cond b 1 0) same in
        omega (arith, none, one)
    by other false same =
        let none : held_of other (row.held ++ h ∷ []) ≡ held_of other row.held + 0 = held-push other row.held h ∙ ap (λ b. held_of other row.held + cond b 1 0) same in
        omega (arith, before.once other, none)

-- the next block, which is new
pub once_next : (numbers : List ℕ) (old id : ℕ) (row : Row) → list_any (nat_eq id) numbers ≡ false → Once numbers old row → Once (numbers ++ id ∷ []) id row
once_next numbers old id row new before = record {
  among = λ other none. before.among other (or_parts (list_any (nat_eq other) numbers) (list_any (nat_eq other) (id ∷ [])) (sym (list_any-append (nat_eq other) numbers (id ∷ [])) ∙ none)).0;
  once = before.once;
  last = λ e. before.among id new;
}

-- All storages.

abbrev pub count : Text → ℕ → List Replica → ℕ
count storage id replicas = count_by (is_replica storage id) replicas

-- whether a name repeats
abbrev pub has_twice : List Text → Bool
has_twice [] = false
has_twice (name ∷ names) = list_any (bytes_eq name) names || has_twice names

same_otherwise : (a b : Text) → bytes_eq a b ≡ false → bytes_eq b a ≡ false
same_otherwise a b e = by (bytes_eq b a) refl
  where
    by : (t : Bool) → bytes_eq b a ≡ t → t ≡ false
    by false same = refl
    by true same = absurd (true≢false (sym same ∙ ap (λ x. bytes_eq x a) (same_name b a same) ∙ ap (bytes_eq a) (sym (same_name b a same)) ∙ e))

pub twice-push : (names : List Text) (name : Text) → has_twice names ≡ false → list_any (bytes_eq name) names ≡ false → has_twice (names ++ name ∷ []) ≡ false
twice-push [] name h new = refl
twice-push (x ∷ names) name h new =
    let apart = or_parts (list_any (bytes_eq x) names) (has_twice names) h in
    let none = or_parts (bytes_eq name x) (list_any (bytes_eq name) names) new in
    let here : list_any (bytes_eq x) (names ++ name ∷ []) ≡ false =
    list_any-append (bytes_eq x) names (name ∷ []) ∙ ap (λ b. b || (bytes_eq x name || false)) apart.0 ∙ ap (λ b. b || false) (same_otherwise name x none.0) in
    ap (λ b. b || has_twice (names ++ name ∷ [])) here ∙ twice-push names name apart.1 none.1

counted : (storage : Text) (id : ℕ) (xs ys : List Replica) → count storage id (xs ++ ys) ≡ count storage id xs + count storage id ys
counted storage id xs ys = sum_by-append (λ r. cond (is_replica storage id r) 1 0) xs ys

-- on the storage of this name
on_it : (storage : Text) (id : ℕ) (name : Text) (held : List StoredReplica) → bytes_eq storage name ≡ true → count storage id (map (on_storage name) held) ≡ held_of id held
on_it storage id name [] e = refl
on_it storage id name (h ∷ held) e =
    sum_by-cons (λ r. cond (is_replica storage id r) 1 0) (on_storage name h) (map (on_storage name) held)
    ∙ ap (λ b. cond (b && nat_eq id h.id) 1 0 + count storage id (map (on_storage name) held)) e
    ∙ ap (λ n. cond (nat_eq id h.id) 1 0 + n) (on_it storage id name held e)
    ∙ sym (sum_by-cons (λ x. cond (nat_eq id x.id) 1 0) h held)

-- on a storage of another name
on_other : (storage : Text) (id : ℕ) (name : Text) (held : List StoredReplica) → bytes_eq storage name ≡ false → count storage id (map (on_storage name) held) ≡ 0
on_other storage id name [] e = refl
on_other storage id name (h ∷ held) e =
    sum_by-cons (λ r. cond (is_replica storage id r) 1 0) (on_storage name h) (map (on_storage name) held)
    ∙ ap (λ b. cond (b && nat_eq id h.id) 1 0 + count storage id (map (on_storage name) held)) e
    ∙ ap (λ n. 0 + n) (on_other storage id name held e)

on_none : (n : ℕ) (rows : List Row) (names : List Text) (storage : Text) (id : ℕ) → Fit n rows names → list_any (bytes_eq storage) names ≡ false → count storage id (on_rows rows names) ≡ 0
on_none n [] names storage id fits e = refl
on_none n (row ∷ rows) [] storage id fits e = absurd fits
on_none n (row ∷ rows) (name ∷ names) storage id fits e =
    let none = or_parts (bytes_eq storage name) (list_any (bytes_eq storage) names) e in
    omega (arith, counted storage id (on_row name row) (on_rows rows names), on_other storage id name row.held none.0, on_none (n + 1) rows names storage id fits.1 none.1)

pub rows_once : (n : ℕ) (rows : List Row) (names : List Text) (numbers : List ℕ) (last : ℕ) → Fit n rows names → has_twice names ≡ false → AllByRecursion (Once numbers last) rows → EachOnce (on_rows rows names)
rows_once n [] names numbers last fits apart once storage id = omega arith
rows_once n (row ∷ rows) [] numbers last fits apart once storage id = absurd fits
rows_once n (row ∷ rows) (name ∷ names) numbers last fits apart once storage id =
    let parts = or_parts (list_any (bytes_eq name) names) (has_twice names) apart in
    by parts.0 (bytes_eq storage name) refl (rows_once (n + 1) rows names numbers last fits.1 parts.1 once.1 storage id)
  where
    by : list_any (bytes_eq name) names ≡ false → (b : Bool) → bytes_eq storage name ≡ b → count storage id (on_rows rows names) ≤ 1 → count storage id (on_row name row ++ on_rows rows names) ≤ 1
    by none true e rest =
        let others : list_any (bytes_eq storage) names ≡ false = ap (λ s. list_any (bytes_eq s) names) (same_name storage name e) ∙ none in
        omega (
          arith,
          counted storage id (on_row name row) (on_rows rows names),
          on_it storage id name row.held e,
          once.0.once id,
          on_none (n + 1) rows names storage id fits.1 others,
        )
    by none false e rest = omega (arith, counted storage id (on_row name row) (on_rows rows names), on_other storage id name row.held e, rest)
