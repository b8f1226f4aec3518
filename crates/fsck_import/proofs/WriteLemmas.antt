-- If each written line is read as its call, the whole written text is read as those calls.
use Rattle.std.proofs.Common.{drop, length-drop, ◌<◌, get_or, arith, ◌≡◌, ◌≤◌, List, [], ◌∷◌, ◌++◌, Option, Some, None, map, length, refl, sym, ap, ◌∙◌, subst, append_assoc, append-nil, ℕ, zero, suc, ◌+◌, Bool, true, false, cond, take, filter, option_to_list, slice_get}
use Rattle.bm_lines.specs.declared.limits.TheConstants.{MAX_LINE}
use Rattle.std.proofs.lemmas.Option.{slice_get_past}
use Rattle.std.proofs.Math.Seq.{take-suc}
use Rattle.std.proofs.lemmas.List.{take_all, nil_from_length}
use Rattle.std.specs.List.{AllByRecursion, flat_map}
use Rattle.std.specs.Option.{option_map_or}
use Rattle.std.proofs.lemmas.Grind.{flat_map-append}
use Rattle.std.specs.Io.KnownBytes.{Appends, Keeps}
use Rattle.bm_base.specs.declared.call.Call.{Call}
use Rattle.bm_lines.specs.CallText.{line_text}
use Rattle.bm_lines.specs.Parser.CallOf.{call_of}
use Rattle.bm_lines.specs.Lines.{IsPart, ended, lines_of}
use Rattle.fsck_text.specs.Cuts.{Text}
use Rattle.fsck_import.specs.WrittenCalls.{lines_for, IsLineOf, Written, WritesCalls}

lines_of-first : (l more : Text) → IsPart l → lines_of (ended l ++ more) ≡ l ∷ lines_of more
unfolding lines_of
lines_of-first [] more p = refl
lines_of-first (b ∷ l) more p = rw (p.0, lines_of-first l more p.1) refl

pub lines-all : (calls : List Call) → AllByRecursion (λ call. IsLineOf call (line_text call)) calls → lines_of (lines_for calls) ≡ map line_text calls
unfolding lines_of
lines-all [] each = refl
lines-all (k ∷ calls) each = lines_of-first (line_text k) (lines_for calls) each.0.whole ∙ ap (λ ls. line_text k ∷ ls) (lines-all calls each.1)

calls-all : (calls : List Call) → AllByRecursion (λ call. IsLineOf call (line_text call)) calls → map call_of (map line_text calls) ≡ map Some calls
calls-all [] each = refl
calls-all (k ∷ calls) each = rw (each.0.asks, calls-all calls each.1) refl

short-all : (calls : List Call) → AllByRecursion (λ call. IsLineOf call (line_text call)) calls → AllByRecursion (λ line. length line ≤ MAX_LINE) (map line_text calls)
short-all [] each = tt
short-all (k ∷ calls) each = (each.0.short, short-all calls each.1)

appended : (a b c : Option Text) (xs ys : Text) → Appends a b xs → Appends b c ys → Appends a c (xs ++ ys)
appended None b c xs ys h k = tt
appended (Some a) None c xs ys h k = absurd h
appended (Some a) (Some b) None xs ys h k = k
appended (Some a) (Some b) (Some c) xs ys h k = k ∙ ap (λ t. t ++ ys) h ∙ append_assoc a xs ys

nothing_appended : (a : Option Text) → Appends a a []
nothing_appended None = tt
nothing_appended (Some a) = sym (append-nil a)

each_append : {A : Type 0} (P : A → Type 0) (xs ys : List A) → AllByRecursion P xs → AllByRecursion P ys → AllByRecursion P (xs ++ ys)
each_append P [] ys h p = p
each_append P (x ∷ xs) ys h p = (h.0, each_append P xs ys h.1 p)

pub nothing_written : (a : Option Text) → Written [] a a
nothing_written a = record { written = nothing_appended a; each = tt }

-- these calls, and then those
pub written_more : (calls more : List Call) (a b c : Option Text) → Written calls a b → Written more b c → Written (calls ++ more) a c
written_more calls more a b c first second = record {
  written = subst (Appends a c) (sym (flat_map-append (λ k. ended (line_text k)) calls more))
      (appended a b c (lines_for calls) (lines_for more) first.written second.written);
  each = each_append (λ k. IsLineOf k (line_text k)) calls more first.each second.each;
}

pub one_written : (call : Call) (a b : Option Text) → Appends a b (ended (line_text call)) → IsLineOf call (line_text call) → Written (call ∷ []) a b
one_written call a b all line = record {
  written = subst (Appends a b) (sym (append-nil (ended (line_text call)))) all;
  each = (line, tt);
}

pub all_written : (calls : List Call) (a b : Option Text) → Written calls a b → WritesCalls calls a b
all_written calls a b all = record {
  written = all.written;
  read = ap (map call_of) (lines-all calls all.each) ∙ calls-all calls all.each;
  short = subst (AllByRecursion (λ line. length line ≤ MAX_LINE)) (sym (lines-all calls all.each)) (short-all calls all.each);
}

-- the bytes after a flush
flushed : (a b d : Option Text) (xs : Text) → Appends a b xs → Keeps b d → Appends a d xs
flushed None b d xs h k = tt
flushed (Some a) None d xs h k = absurd h
flushed (Some a) (Some b) None xs h k = k
flushed (Some a) (Some b) (Some d) xs h k = k ∙ h

pub still_written : (calls : List Call) (a b d : Option Text) → WritesCalls calls a b → Keeps b d → WritesCalls calls a d
still_written calls a b d writes kept = record { written = flushed a b d _ writes.written kept; read = writes.read; short = writes.short }

-- these calls, then those, and a flush
pub all_flushed : (calls more : List Call) (a b c d : Option Text) → Written calls a b → Written more b c → Keeps c d → WritesCalls (calls ++ more) a d
all_flushed calls more a b c d first second kept = still_written (calls ++ more) a c d (all_written (calls ++ more) a c (written_more calls more a b c first second)) kept

pub take_next : {A : Type 0} (xs : List A) (i : ℕ) → take (suc i) xs ≡ take i xs ++ option_to_list (slice_get xs i)
take_next {A} [] zero = refl
take_next {A} [] (suc i) = sym (ap (λ (o : Option A). take (suc i) [] ++ option_to_list o) (slice_get_past {X = A} [] (suc i) (omega arith)))
take_next (x ∷ xs) zero = refl
take_next (x ∷ xs) (suc i) = ap (λ ys. x ∷ ys) (take_next xs i)

-- one more element of a list, if there is one
pub take_more : {A : Type 0} (xs : List A) (i : ℕ) → take (i + 1) xs ≡ take i xs ++ option_to_list (slice_get xs i)
take_more xs i = let next : i + 1 ≡ suc i = omega arith in ap (λ n. take n xs) next ∙ take_next xs i

pub map-append : {A : Type 0} (f : A → Call) (xs ys : List A) → map f (xs ++ ys) ≡ map f xs ++ map f ys
map-append f [] ys = refl
map-append f (x ∷ xs) ys = ap (λ zs. f x ∷ zs) (map-append f xs ys)

pub adds_more : {A : Type 0} (f : A → Call) (xs : List A) (i : ℕ) (a b c : Option Text) → Written (map f (take i xs)) a b
    → Written (map f (option_to_list (slice_get xs i))) b c → Written (map f (take (i + 1) xs)) a c
adds_more f xs i a b c first second =
    subst (λ calls. Written calls a c) (sym (ap (map f) (take_more xs i) ∙ map-append f (take i xs) (option_to_list (slice_get xs i)))) (written_more _ _ a b c first second)

pub filter-push : {A : Type 0} (t : A → Bool) (xs : List A) (x : A) → filter t (xs ++ x ∷ []) ≡ filter t xs ++ filter t (x ∷ [])
filter-push t [] x = refl
filter-push t (y ∷ xs) x = by (t y) (filter-push t xs x)
  where
    by : (b : Bool) → filter t (xs ++ x ∷ []) ≡ filter t xs ++ filter t (x ∷ []) → cond b (y ∷ filter t (xs ++ x ∷ [])) (filter t (xs ++ x ∷ [])) ≡ cond b (y ∷ filter t xs) (filter t xs) ++ filter t (x ∷ [])
    by true h = ap (λ ys. y ∷ ys) h
    by false h = h

pub kept_more : {A : Type 0} (f : A → Call) (t : A → Bool) (xs : List A) (x : A) (a b c : Option Text) → Written (map f (filter t xs)) a b
    → Written (map f (filter t (x ∷ []))) b c → Written (map f (filter t (xs ++ x ∷ []))) a c
kept_more f t xs x a b c first second =
    subst (λ calls. Written calls a c) (sym (ap (map f) (filter-push t xs x) ∙ map-append f (filter t xs) (filter t (x ∷ [])))) (written_more _ _ a b c first second)

pub rows_more : {A : Type 0} (f : A → List Call) (xs : List A) (x : A) (a b c : Option Text) → Written (flat_map f xs) a b → Written (f x) b c
    → Written (flat_map f (xs ++ x ∷ [])) a c
rows_more f xs x a b c first second =
    subst (λ calls. Written calls a c) (sym (flat_map-append f xs (x ∷ []) ∙ ap (λ ys. flat_map f xs ++ ys) (append-nil (f x)))) (written_more _ _ a b c first second)

-- the element at an index of a loop
pub rows_at : {A : Type 0} (f : A → List Call) (xs : List A) (i : ℕ) (x : A) (a b c : Option Text) → i < length xs → x ≡ get_or xs i x
    → Written (flat_map f (take i xs)) a b → Written (f x) b c → Written (flat_map f (take (i + 1) xs)) a c
rows_at f xs i x a b c lt is first second =
    let next : suc i ≡ i + 1 = omega arith in
    let taken : take i xs ++ x ∷ [] ≡ take (i + 1) xs = ap (λ y. take i xs ++ y ∷ []) is ∙ sym (take-suc xs i x lt) ∙ ap (λ n. take n xs) next in
    subst (λ ys. Written (flat_map f ys) a c) taken (rows_more f (take i xs) x a b c first second)

pub all_first : {A : Type 0} (n : ℕ) (xs : List A) → length xs < n → xs ≡ take n xs
all_first n xs lt = sym (take_all n xs (omega (arith, lt)))

pub no_others : {A : Type 0} (n : ℕ) (xs : List A) → length xs < n → [] ≡ drop n xs
no_others n xs lt = sym (nil_from_length (drop n xs) (omega (arith, length-drop n xs, lt)))

-- a text with one more part, if there is one
pub texts_more : {A : Type 0} (f : A → Text) (xs : List A) (i : ℕ) (start old new : Text) → old ≡ start ++ flat_map f (take i xs)
    → new ≡ old ++ flat_map f (option_to_list (slice_get xs i)) → new ≡ start ++ flat_map f (take (i + 1) xs)
texts_more f xs i start old new so_far one =
    let more : flat_map f (take (i + 1) xs) ≡ flat_map f (take i xs) ++ flat_map f (option_to_list (slice_get xs i)) =
    ap (flat_map f) (take_more xs i) ∙ flat_map-append f (take i xs) (option_to_list (slice_get xs i)) in
    one ∙ ap (λ t. t ++ flat_map f (option_to_list (slice_get xs i))) so_far
    ∙ append_assoc start (flat_map f (take i xs)) (flat_map f (option_to_list (slice_get xs i)))
    ∙ ap (λ t. start ++ t) (sym more)

-- a text with the part for an element, if there is one; else the same text
pub with_part : {A : Type 0} (f : A → Text) (o : Option A) (x : A) (old new : Text) → Some x ≡ o → new ≡ old ++ f x → new ≡ old ++ flat_map f (option_to_list o)
with_part f o x old new is e = subst (λ p. new ≡ old ++ flat_map f (option_to_list p)) is (e ∙ ap (λ t. old ++ t) (sym (append-nil (f x))))

pub without_part : {A : Type 0} (f : A → Text) (o : Option A) (old : Text) → None ≡ o → old ≡ old ++ flat_map f (option_to_list o)
without_part f o old is = subst (λ p. old ≡ old ++ flat_map f (option_to_list p)) is (sym (append-nil old))

pub without_text : {A : Type 0} (f : A → Text) (o : Option A) (old : Text) → None ≡ o → old ≡ old ++ option_map_or f o []
without_text f o old is = subst (λ p. old ≡ old ++ option_map_or f p []) is (sym (append-nil old))
