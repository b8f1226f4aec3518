-- Reading a list item by item gives all its replicas, or the fault of the first wrong item.
use Rattle.std.proofs.Common.{◌≡◌, ◌≢◌, ℕ, ◌+◌, ◌<◌, ◌≤◌, Bool, true, false, List, [], ◌∷◌, ◌++◌, Option, Some, None, Result, Ok, Err, option_map, MatchOption, suc, zero, length, get_or, take, drop, arith, append_assoc, is_ok, true≢false, append-nil, refl, sym, ap, subst, IfSome, ◌∙◌, inl, inr, ◌==◌, ◌&&◌, if◌then◌else◌}
use Rattle.std.proofs.lemmas.Bool.{eq-eqb}
use Rattle.std.proofs.lemmas.Bool.Decides.{eqb_tells}
use Rattle.std.specs.Str.Pattern.{FindsText}
use denote.Ref.{Bor}
use Rattle.fsck_text.specs.Cuts.{Text, onto_cut}
use Rattle.fsck_text.specs.Lists.{cut_item, onto_first, items_of, onto_listed, all_listed, listed_of, listed_replicas, pushed}
use Rattle.fsck_text.specs.declared.list.ListedReplica.{ListedReplica}
use Rattle.fsck_text.specs.Wrongs.{IsCause}
use Rattle.fsck_text.specs.declared.reason.Wrong.{Wrong}
use Rattle.fsck_text.specs.declared.reason.Fault.{Fault}
use Rattle.fsck_text.specs.declared.reason.Fault.TheVariants as fault

-- the items of a text with this cut
abbrev pub cut_items : Text → Option (Text × Text) → List Text
cut_items text None = text ∷ []
cut_items text (Some p) = p.0 ∷ items_of p.1

onto-cut : (b : ℕ) (text : Text) (cut : Option (Text × Text)) → items_of text ≡ cut_items text cut
    → onto_first b (items_of text) ≡ cut_items (b ∷ text) (option_map (onto_cut b) cut)
onto-cut b text None h = rw h refl
onto-cut b text (Some p) h = rw h refl

by-end : (e : Bool) (b c : ℕ) (bs : Text) → items_of (c ∷ bs) ≡ cut_items (c ∷ bs) (cut_item (c ∷ bs))
    → (if e then [] ∷ items_of bs else onto_first b (items_of (c ∷ bs))) ≡ cut_items (b ∷ c ∷ bs) (if e then Some ([], bs) else option_map (onto_cut b) (cut_item (c ∷ bs)))
by-end true b c bs h = refl
by-end false b c bs h = onto-cut b (c ∷ bs) (cut_item (c ∷ bs)) h

-- the items are the first one and those of the rest
items-cut : (text : Text) → items_of text ≡ cut_items text (cut_item text)
items-cut [] = refl
items-cut (b ∷ []) = refl
items-cut (b ∷ c ∷ bs) = by-end (b == 44 && c == 32) b c bs (items-cut (c ∷ bs))

pub next-item : (text item after : Text) → cut_item text ≡ Some (item, after) → listed_replicas text ≡ onto_listed (listed_of item) (listed_replicas after)
next-item text item after h = ap all_listed (items-cut text ∙ ap (cut_items text) h)

pub last-item : (text : Text) → cut_item text ≡ None → listed_replicas text ≡ onto_listed (listed_of text) (Ok [])
last-item text h = ap all_listed (items-cut text ∙ ap (cut_items text) h)

-- some replicas and then those of a list, if the list is understood
abbrev pub prefixed : List ListedReplica → Result (List ListedReplica) Wrong → Result (List ListedReplica) Wrong
prefixed xs (Ok ys) = Ok (xs ++ ys)
prefixed xs (Err w) = Err w

pub prefixed-one : (xs : List ListedReplica) (one : ListedReplica) (r : Result (List ListedReplica) Wrong) → prefixed xs (onto_listed (Ok one) r) ≡ prefixed (xs ++ one ∷ []) r
prefixed-one xs one (Ok ys) = ap Ok (sym (append_assoc xs (one ∷ []) ys))
prefixed-one xs one (Err w) = refl

-- the cut of split_once at a comma and a space
is-end : (b c : ℕ) → b ≡ 44 → c ≡ 32 → (b == 44 && c == 32) ≡ true
is-end b c e f = rw (eq-eqb b 44 e, eq-eqb c 32 f) refl

not-end : (b c : ℕ) (bs : Text) → ((r : Text) → (b ∷ c ∷ bs) ≢ 44 ∷ 32 ∷ r) → (b == 44 && c == 32) ≡ false
not-end b c bs none = elim (eqb_tells b 44) [
  | inl e ↦ elim (eqb_tells c 32) [
    | inl f ↦ absurd (none bs (ap (λ x. x ∷ c ∷ bs) e.1 ∙ ap (λ x. 44 ∷ x ∷ bs) f.1))
    | inr f ↦ rw (e.0, f.0) refl
  ]
  | inr e ↦ rw e.0 refl
]

cut_item-at : (bs : Text) (i : ℕ) (rest : Text) → drop i bs ≡ 44 ∷ 32 ∷ rest → ((k : ℕ) → k < i → (r : Text) → drop k bs ≢ 44 ∷ 32 ∷ r)
    → cut_item bs ≡ Some (take i bs, rest)
cut_item-at [] zero rest at before = absurd (omega (arith, ap length at))
cut_item-at [] (suc i) rest at before = absurd (omega (arith, ap length at))
cut_item-at (b ∷ []) zero rest at before = absurd (omega (arith, ap length at))
cut_item-at (b ∷ []) (suc zero) rest at before = absurd (omega (arith, ap length at))
cut_item-at (b ∷ []) (suc (suc i)) rest at before = absurd (omega (arith, ap length at))
cut_item-at (b ∷ c ∷ bs) zero rest at before =
    rw (is-end b c (ap (λ l. get_or l 0 0) at) (ap (λ l. get_or l 1 0) at)) (ap (λ r. Some ([], r)) (ap (drop 2) at))
cut_item-at (b ∷ c ∷ bs) (suc i) rest at before =
    rw (not-end b c bs (λ r. before 0 (omega arith) r)) (ap (option_map (onto_cut b)) (cut_item-at (c ∷ bs) i rest at (λ k lt r. before (suc k) (omega arith) r)))

cut_item-none : (bs : Text) → ((i : ℕ) → i ≤ length bs → (r : Text) → drop i bs ≢ 44 ∷ 32 ∷ r) → cut_item bs ≡ None
cut_item-none [] none = refl
cut_item-none (b ∷ []) none = refl
cut_item-none (b ∷ c ∷ bs) none =
    rw (not-end b c bs (λ r. none 0 (omega arith) r)) (ap (option_map (onto_cut b)) (cut_item-none (c ∷ bs) (λ i le r. none (suc i) (omega arith) r)))

-- the result of a call of split_once
pub cut_item-from : (bs : Text) (r : Option (Bor Text × Bor Text))
    → MatchOption r (FindsText (44 ∷ 32 ∷ []) bs None) (λ x. (i : ℕ) × (j : ℕ) × FindsText (44 ∷ 32 ∷ []) bs (Some (i, j)) × (x.0.now ≡ take i bs) × (x.1.now ≡ drop j bs) × (i ≤ j) × (length x.0.now ≡ i) × (length x.1.now + j ≡ length bs))
    → option_map (λ p. (p.0.now, p.1.now)) r ≡ cut_item bs
cut_item-from bs None h = sym (cut_item-none bs h)
cut_item-from bs (Some x) h = rw (h.3, h.4) (sym (cut_item-at bs h.0 (drop h.1 bs) h.2.1.split h.2.0))

-- the rest is shorter
abbrev pub IsShorter : Text → Option (Text × Text) → Type 0
IsShorter text cut = IfSome cut (λ p. length p.1 < length text)

shorter-onto : (b : ℕ) (text : Text) (cut : Option (Text × Text)) → IsShorter text cut → IsShorter (b ∷ text) (option_map (onto_cut b) cut)
shorter-onto b text None h = tt
shorter-onto b text (Some p) h = omega (arith, h)

shorter-by : (e : Bool) (b c : ℕ) (bs : Text) → IsShorter (c ∷ bs) (cut_item (c ∷ bs))
    → IsShorter (b ∷ c ∷ bs) (if e then Some ([], bs) else option_map (onto_cut b) (cut_item (c ∷ bs)))
shorter-by true b c bs h = omega arith
shorter-by false b c bs h = shorter-onto b (c ∷ bs) (cut_item (c ∷ bs)) h

pub shorter : (text : Text) → IsShorter text (cut_item text)
shorter [] = tt
shorter (b ∷ []) = tt
shorter (b ∷ c ∷ bs) = shorter-by (b == 44 && c == 32) b c bs (shorter (c ∷ bs))

pub shorter_after : (text item after : Text) → cut_item text ≡ Some (item, after) → length after < length text
shorter_after text item after e = subst (IsShorter text) e (shorter text)

abbrev value : Result (List ListedReplica) Wrong → List ListedReplica
value (Ok list) = list
value (Err w) = []

pushed-onto : (xs ys : List ListedReplica) (r : Result ListedReplica Wrong) (tail : Result (List ListedReplica) Wrong) → pushed xs r ≡ Ok ys → prefixed xs (onto_listed r tail) ≡ prefixed ys tail
pushed-onto xs ys (Ok one) tail e = prefixed-one xs one tail ∙ ap (λ zs. prefixed zs tail) (ap value e)
pushed-onto xs ys (Err w) tail e = absurd (true≢false (sym (ap is_ok e)))

-- a step of the loop
pub next_listed : (text rest item after : Text) (xs ys : List ListedReplica) → listed_replicas text ≡ prefixed xs (listed_replicas rest) → cut_item rest ≡ Some (item, after)
    → pushed xs (listed_of item) ≡ Ok ys → listed_replicas text ≡ prefixed ys (listed_replicas after)
next_listed text rest item after xs ys so_far cut one =
    so_far ∙ ap (prefixed xs) (next-item rest item after cut) ∙ pushed-onto xs ys (listed_of item) (listed_replicas after) one

-- the last step of the loop
pub last_listed : (text rest : Text) (xs ys : List ListedReplica) → listed_replicas text ≡ prefixed xs (listed_replicas rest) → cut_item rest ≡ None
    → pushed xs (listed_of rest) ≡ Ok ys → listed_replicas text ≡ Ok ys
last_listed text rest xs ys so_far cut one =
    so_far ∙ ap (prefixed xs) (last-item rest cut) ∙ pushed-onto xs ys (listed_of rest) (Ok []) one ∙ ap Ok (append-nil ys)

wrong-onto : (f : Fault) (xs : List ListedReplica) (r : Result ListedReplica Wrong) (tail whole : Result (List ListedReplica) Wrong) → whole ≡ prefixed xs (onto_listed r tail) → IsCause f r → IsCause f whole
wrong-onto fault.Memory xs r tail whole e cause = tt
wrong-onto (fault.Wrong w) xs r tail whole e cause = e ∙ ap (λ s. prefixed xs (onto_listed s tail)) cause

pub item_wrong : (text rest item after : Text) (xs : List ListedReplica) (f : Fault) → listed_replicas text ≡ prefixed xs (listed_replicas rest) → cut_item rest ≡ Some (item, after)
    → IsCause f (listed_of item) → IsCause f (listed_replicas text)
item_wrong text rest item after xs f so_far cut cause =
    wrong-onto f xs (listed_of item) (listed_replicas after) (listed_replicas text) (so_far ∙ ap (prefixed xs) (next-item rest item after cut)) cause

pub last_wrong : (text rest : Text) (xs : List ListedReplica) (f : Fault) → listed_replicas text ≡ prefixed xs (listed_replicas rest) → cut_item rest ≡ None
    → IsCause f (listed_of rest) → IsCause f (listed_replicas text)
last_wrong text rest xs f so_far cut cause =
    wrong-onto f xs (listed_of rest) (Ok []) (listed_replicas text) (so_far ∙ ap (prefixed xs) (last-item rest cut)) cause
