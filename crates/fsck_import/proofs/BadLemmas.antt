-- Corrupt replicas and draining nodes stay listed exactly as names, replicas or nodes are added.
use Rattle.std.proofs.Common.{◌≡◌, ℕ, zero, suc, ◌+◌, ◌-◌, ◌<◌, ◌≤◌, ◌==◌, ◌||◌, Bool, true, false, List, [], ◌∷◌, ◌++◌, map, length, length-append, refl, sym, ap, subst, ◌∙◌, arith, true≢false, if◌then◌else◌}
use Rattle.std.specs.List.{list_any, AllByRecursion}
use Rattle.std.proofs.lemmas.Bool.Decides.{nat_tests}
use Rattle.std.specs.Str.{bytes_eq}
use Rattle.std.proofs.lemmas.List.Folds.{list_any-append}
use Rattle.std.proofs.lemmas.List.{map_push}
use Rattle.std.proofs.Math.Bool.{or-true}
use Rattle.bm_base.specs.Machine.Entries.{range_from}
use Rattle.fsck_text.specs.Cuts.{Text}
use Rattle.fsck_files.specs.Numbers.{has_number, with_number}
use Rattle.fsck_cluster.specs.Names.{name_of}
use Rattle.fsck_cluster.specs.declared.cluster.Bad.{Bad}
use Rattle.fsck_cluster.specs.declared.cluster.NodeRow.{NodeRow}
use Rattle.fsck_import.proofs.NameLemmas.{name_of-more, same_name, same_number, number_is_itself, name_is_itself, known-push, known_last}

-- Corrupt replicas.

-- by the name of its storage
abbrev pub by_name : List Text → Bad → Text × ℕ
by_name names b = (name_of names b.storage, b.id)

-- the storage of a replica has one of the first n names
abbrev pub HasName : ℕ → Bad → Type 0
HasName n b = b.storage - 1 < n

pub bad-push : (n : ℕ) (bad : List Bad) (b : Bad) → AllByRecursion (HasName n) bad → HasName n b → AllByRecursion (HasName n) (bad ++ b ∷ [])
bad-push n [] b h p = (p, tt)
bad-push n (x ∷ bad) b h p = (h.0, bad-push n bad b h.1 p)

pub bad-more : (names more : List Text) (bad : List Bad) → AllByRecursion (HasName (length names)) bad → map (by_name (names ++ more)) bad ≡ map (by_name names) bad
bad-more names more [] h = refl
bad-more names more (b ∷ bad) h =
    let first : by_name (names ++ more) b ≡ by_name names b = ap (λ t. (t, b.id)) (name_of-more names more b.storage h.0) in
    ap (λ t. t ∷ map (by_name (names ++ more)) bad) first ∙ ap (λ t. by_name names b ∷ t) (bad-more names more bad h.1)

pub bad-wider : (n m : ℕ) (bad : List Bad) → n ≤ m → AllByRecursion (HasName n) bad → AllByRecursion (HasName m) bad
bad-wider n m [] e h = tt
bad-wider n m (b ∷ bad) e h = (omega (arith, e, h.0), bad-wider n m bad e h.1)

-- the corrupt replicas, by these names of storages, are these
pub record Corrupted (names : List Text) (bad : List Bad) (pairs : List (Text × ℕ)) : Type 0 where
  pub named : map (by_name names) bad ≡ pairs
  pub within : AllByRecursion (HasName (length names)) bad

pub corrupted_name : (names : List Text) (name : Text) (bad : List Bad) (pairs : List (Text × ℕ)) → Corrupted names bad pairs → Corrupted (names ++ name ∷ []) bad pairs
corrupted_name names name bad pairs before = record {
  named = bad-more names (name ∷ []) bad before.within ∙ before.named;
  within = bad-wider (length names) (length (names ++ name ∷ [])) bad (omega (arith, length-append names (name ∷ []))) before.within;
}

pub corrupted_more : (names : List Text) (bad : List Bad) (pairs : List (Text × ℕ)) (storage id : ℕ) (name : Text) → storage - 1 < length names → name_of names storage ≡ name → Corrupted names bad pairs
    → Corrupted names (bad ++ record { storage = storage; id = id } ∷ []) (pairs ++ (name, id) ∷ [])
corrupted_more names bad pairs storage id name within e before =
    let b : Bad = record { storage = storage; id = id } in
    record {
      named = map_push (by_name names) bad b ∙ ap (λ t. t ++ by_name names b ∷ []) before.named ∙ ap (λ t. pairs ++ (t, id) ∷ []) e;
      within = bad-push (length names) bad b before.within within;
    }

-- Nodes that drain.

-- a node of this name that drains
pub record Drained (names : List Text) (draining : List ℕ) (address : Text) : Type 0 where
  pub number : ℕ
  pub above : 1 ≤ number
  pub within : number ≤ length names
  pub name : name_of names number ≡ address
  pub drains : has_number draining number ≡ true

-- a number of a node whose address is among these
pub record IsNumberOf (names addresses : List Text) (number : ℕ) : Type 0 where
  pub above : 1 ≤ number
  pub within : number ≤ length names
  pub among : list_any (bytes_eq (name_of names number)) addresses ≡ true

-- these nodes drain, and no other
pub record Drains (names : List Text) (draining : List ℕ) (addresses : List Text) : Type 0 where
  pub each : (address : Text) → list_any (bytes_eq address) addresses ≡ true → Drained names draining address
  pub only : (number : ℕ) → has_number draining number ≡ true → IsNumberOf names addresses number

pub drains_name : (names : List Text) (name : Text) (draining : List ℕ) (addresses : List Text) → Drains names draining addresses → Drains (names ++ name ∷ []) draining addresses
drains_name names name draining addresses before = record {
  each = λ address e. drained_name (before.each address e);
  only = λ number h. number_name number (before.only number h);
}
  where
    wider : length names ≤ length (names ++ name ∷ [])
    wider = omega (arith, length-append names (name ∷ []))

    drained_name : {address : Text} → Drained names draining address → Drained (names ++ name ∷ []) draining address
    drained_name d = record {
      number = d.number;
      above = d.above;
      within = omega (arith, d.within, wider);
      name = name_of-more names (name ∷ []) d.number (omega (arith, d.above, d.within)) ∙ d.name;
      drains = d.drains;
    }

    number_name : (number : ℕ) → IsNumberOf names addresses number → IsNumberOf (names ++ name ∷ []) addresses number
    number_name number n = record {
      above = n.above;
      within = omega (arith, n.within, wider);
      among = ap (λ t. list_any (bytes_eq t) addresses) (name_of-more names (name ∷ []) number (omega (arith, n.above, n.within))) ∙ n.among;
    }

true_or : (a b : Bool) → (a || b) ≡ true → a ≡ false → b ≡ true
true_or true b h e = absurd (true≢false e)
true_or false b h e = h

or_nothing : (a : Bool) → (a || false) ≡ true → a ≡ true
or_nothing true h = refl
or_nothing false h = h

pub has-last : (numbers : List ℕ) (n : ℕ) → has_number (numbers ++ n ∷ []) n ≡ true
has-last numbers n = list_any-append (λ m. m == n) numbers (n ∷ []) ∙ ap (λ b. has_number numbers n || (b || false)) (number_is_itself n) ∙ or-true (has_number numbers n)

has-with_same : (numbers : List ℕ) (n : ℕ) → has_number (with_number numbers n) n ≡ true
has-with_same numbers n = by (has_number numbers n) refl
  where
    by : (b : Bool) → has_number numbers n ≡ b → has_number (if b then numbers else numbers ++ n ∷ []) n ≡ true
    by true e = e
    by false e = has-last numbers n

has-with_more : (numbers : List ℕ) (n m : ℕ) → has_number numbers m ≡ true → has_number (with_number numbers n) m ≡ true
has-with_more numbers n m h = by (has_number numbers n)
  where
    by : (b : Bool) → has_number (if b then numbers else numbers ++ n ∷ []) m ≡ true
    by true = h
    by false = list_any-append (λ k. k == m) numbers (n ∷ []) ∙ ap (λ b. b || has_number (n ∷ []) m) h

-- a number that is in a list only after another was added is the added one
pub has-with_either : (numbers : List ℕ) (n m : ℕ) → has_number (with_number numbers n) m ≡ true → has_number numbers m ≡ false → m ≡ n
has-with_either numbers n m h none = by (has_number numbers n) h
  where
    by : (b : Bool) → has_number (if b then numbers else numbers ++ n ∷ []) m ≡ true → m ≡ n
    by true e = absurd (true≢false (sym e ∙ none))
    by false e =
        let last : ((n == m) || false) ≡ true = true_or (has_number numbers m) ((n == m) || false) (sym (list_any-append (λ k. k == m) numbers (n ∷ [])) ∙ e) none in
        sym (same_number n m (or_nothing (n == m) last))

-- one more node drains
more_each : (names : List Text) (draining : List ℕ) (addresses : List Text) (number : ℕ) (name : Text) → 1 ≤ number → number ≤ length names → name_of names number ≡ name
    → Drains names draining addresses → (address : Text) → list_any (bytes_eq address) (addresses ++ name ∷ []) ≡ true → Drained names (with_number draining number) address
more_each names draining addresses number name above within e before address h =
    by (list_any (bytes_eq address) addresses) refl
  where
    by : (b : Bool) → list_any (bytes_eq address) addresses ≡ b → Drained names (with_number draining number) address
    by true known =
        let d = before.each address known in
        record {
          number = d.number;
          above = d.above;
          within = d.within;
          name = d.name;
          drains = has-with_more draining number d.number d.drains;
        }
    by false new =
        let last : (bytes_eq address name || false) ≡ true = true_or (list_any (bytes_eq address) addresses) (bytes_eq address name || false) (sym (list_any-append (bytes_eq address) addresses (name ∷ [])) ∙ h) new in
        record {
          number = number;
          above = above;
          within = within;
          name = e ∙ sym (same_name address name (or_nothing (bytes_eq address name) last));
          drains = has-with_same draining number;
        }

more_only : (names : List Text) (draining : List ℕ) (addresses : List Text) (number : ℕ) (name : Text) → 1 ≤ number → number ≤ length names → name_of names number ≡ name
    → Drains names draining addresses → (m : ℕ) → has_number (with_number draining number) m ≡ true → IsNumberOf names (addresses ++ name ∷ []) m
more_only names draining addresses number name above within e before m h = by (has_number draining m) refl
  where
    by : (b : Bool) → has_number draining m ≡ b → IsNumberOf names (addresses ++ name ∷ []) m
    by true known =
        let n = before.only m known in
        record { above = n.above; within = n.within; among = known-push (bytes_eq (name_of names m)) addresses name n.among }
    by false new =
        let same : m ≡ number = has-with_either draining number m h new in
        subst (IsNumberOf names (addresses ++ name ∷ [])) (sym same)
        (record { above = above; within = within; among = ap (λ t. list_any (bytes_eq t) (addresses ++ name ∷ [])) e ∙ known_last name addresses })

pub drains_more : (names : List Text) (draining : List ℕ) (addresses : List Text) (number : ℕ) (name : Text) → 1 ≤ number → number ≤ length names → name_of names number ≡ name
    → Drains names draining addresses → Drains names (with_number draining number) (addresses ++ name ∷ [])
drains_more names draining addresses number name above within e before = record {
  each = more_each names draining addresses number name above within e before;
  only = more_only names draining addresses number name above within e before;
}

-- a node that drains, by its address
pub record DrainsAs (names : List Text) (draining : List ℕ) (address : Text) : Type 0 where
  pub number : ℕ
  pub drains : has_number draining number ≡ true
  pub name : address ≡ name_of names number

name_found : (names : List Text) (draining : List ℕ) (address : Text) → list_any (bytes_eq address) (map (name_of names) draining) ≡ true → DrainsAs names draining address
name_found names [] address h = absurd (true≢false (sym h))
name_found names (n ∷ draining) address h = by (bytes_eq address (name_of names n)) refl h (name_found names draining address)
  where
    by : (b : Bool) → bytes_eq address (name_of names n) ≡ b → (b || list_any (bytes_eq address) (map (name_of names) draining)) ≡ true
        → (list_any (bytes_eq address) (map (name_of names) draining) ≡ true → DrainsAs names draining address) → DrainsAs names (n ∷ draining) address
    by true same k rest = record {
      number = n;
      drains = ap (λ b. b || has_number draining n) (number_is_itself n);
      name = same_name address (name_of names n) same;
    }
    by false same k rest =
        let found = rest k in
        record {
          number = found.number;
          drains = ap (λ b. (n == found.number) || b) found.drains ∙ or-true (n == found.number);
          name = found.name;
        }

number_found : (names : List Text) (draining : List ℕ) (number : ℕ) → has_number draining number ≡ true → list_any (bytes_eq (name_of names number)) (map (name_of names) draining) ≡ true
number_found names [] number h = absurd (true≢false (sym h))
number_found names (n ∷ draining) number h = by (n == number) refl h (number_found names draining number)
  where
    others : Bool
    others = list_any (bytes_eq (name_of names number)) (map (name_of names) draining)

    by : (b : Bool) → (n == number) ≡ b → (b || has_number draining number) ≡ true → (has_number draining number ≡ true → others ≡ true) → (bytes_eq (name_of names number) (name_of names n) || others) ≡ true
    by true same k rest = ap (λ m. bytes_eq (name_of names number) (name_of names m) || others) (same_number n number same) ∙ ap (λ b. b || others) (name_is_itself (name_of names number))
    by false same k rest = ap (λ b. bytes_eq (name_of names number) (name_of names n) || b) (rest k) ∙ or-true (bytes_eq (name_of names number) (name_of names n))

-- the nodes that drain at the start
pub drains_first : (names : List Text) (draining : List ℕ) → ((number : ℕ) → has_number draining number ≡ true → (1 ≤ number) × (number ≤ length names)) → Drains names draining (map (name_of names) draining)
drains_first names draining within = record {
  each = λ address e. drained_as (name_found names draining address e);
  only = λ number h. record { above = (within number h).0; within = (within number h).1; among = number_found names draining number h };
}
  where
    drained_as : {address : Text} → DrainsAs names draining address → Drained names draining address
    drained_as d = record {
      number = d.number;
      above = (within d.number d.drains).0;
      within = (within d.number d.drains).1;
      name = sym d.name;
      drains = d.drains;
    }

-- Nodes by their numbers.

abbrev pub node_number : NodeRow → ℕ
node_number row = row.number

count_push : (n k : ℕ) → range_from n (suc k) ≡ range_from n k ++ (n + k) ∷ []
count_push n zero = let e : n ≡ n + 0 = omega arith in ap (λ m. m ∷ []) e
count_push n (suc k) = let e : suc n + k ≡ n + suc k = omega arith in ap (λ xs. n ∷ xs) (count_push (suc n) k ∙ ap (λ m. range_from (suc n) k ++ m ∷ []) e)

-- the number of one more name
pub count_push-names : (names : List Text) (name : Text) → range_from 1 (length names) ++ (length names + 1) ∷ [] ≡ range_from 1 (length (names ++ name ∷ []))
count_push-names names name =
    let next : length names + 1 ≡ 1 + length names = omega arith in
    let more : suc (length names) ≡ length (names ++ name ∷ []) = omega (arith, length-append names (name ∷ [])) in
    ap (λ n. range_from 1 (length names) ++ n ∷ []) next ∙ sym (count_push 1 (length names)) ∙ ap (range_from 1) more

-- nodes numbered from 1 on, one for each name, and one more
pub numbered-push : (rows : List NodeRow) (names : List Text) (row : NodeRow) (name : Text) → map node_number rows ≡ range_from 1 (length names) → row.number ≡ length names + 1
    → map node_number (rows ++ row ∷ []) ≡ range_from 1 (length (names ++ name ∷ []))
numbered-push rows names row name h e = map_push node_number rows row ∙ ap (λ t. t ++ row.number ∷ []) h ∙ ap (λ n. range_from 1 (length names) ++ n ∷ []) e ∙ count_push-names names name

above_it : (n m : ℕ) → n ≤ m → (n == m) ≡ false → suc n ≤ m
above_it n m h e = grind (arith, nat_tests)

pub has-range_from : (n k m : ℕ) → n ≤ m → m < n + k → has_number (range_from n k) m ≡ true
has-range_from n zero m above below = absurd (omega (arith, above, below))
has-range_from n (suc k) m above below = by (n == m) refl (λ h. has-range_from (suc n) k m h (omega (arith, below)))
  where
    by : (b : Bool) → (n == m) ≡ b → (suc n ≤ m → has_number (range_from (suc n) k) m ≡ true) → (b || has_number (range_from (suc n) k) m) ≡ true
    by true e rest = refl
    by false e rest = rest (above_it n m above e)

pub in-range_from : (n k m : ℕ) → has_number (range_from n k) m ≡ true → (n ≤ m) × (m < n + k)
in-range_from n zero m h = absurd (true≢false (sym h))
in-range_from n (suc k) m h = by (n == m) refl h (in-range_from (suc n) k m)
  where
    by : (b : Bool) → (n == m) ≡ b → (b || has_number (range_from (suc n) k) m) ≡ true → (has_number (range_from (suc n) k) m ≡ true → (suc n ≤ m) × (m < suc n + k)) → (n ≤ m) × (m < n + suc k)
    by true e h rest = let same : n ≡ m = same_number n m e in (omega (arith, same), omega (arith, same))
    by false e h rest = let p = rest h in (omega (arith, p.0), omega (arith, p.1))
