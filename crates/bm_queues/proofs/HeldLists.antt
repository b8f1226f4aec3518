-- Links still hold the right lists after a slot is unlinked or linked in front, or they grow.
use Rattle.std.proofs.Common.{◌≡◌, ◌≢◌, ◌⊎◌, ℕ, zero, suc, ◌<◌, ◌≤◌, ◌+◌, ◌-◌, List, [], ◌∷◌, ◌++◌, length, get_or, set, take, replicate, Option, Some, None, inl, inr, subst, sym, ap, ◌∙◌, refl, arith}
use Rattle.std.proofs.lemmas.Bool.{cases_eq, cases_lt, eq-eqb, ne_eqb}
use Rattle.std.proofs.lemmas.Option.{none-some, same_Some}
use Rattle.std.proofs.lemmas.List.{get_or_past, get_or-set_same, get_or-set_other, length-set, length-replicate}
use Rattle.std.specs.Prelude.{if◌then◌else◌, ◌==◌}
use Rattle.bm_maps.specs.SlotLinks.{end_of_links}
use Rattle.bm_maps.specs.SlotLists.{IsMember, Distinct, without, first_of, slot_after}
use Rattle.bm_queues.specs.Links.{link_at, Chain, list_from, HoldLists, AreLinks, back_set}
use Rattle.bm_maps.proofs.SlotLists.{IsMember-without, IsMember-without_other, without-absent, Distinct-without, length-distinct_below}
use Rattle.bm_queues.proofs.Chains.{Off, Chain-frame, walk-chain, first-chain, after-chain, back-chain, before-chain, next_among, not_itself, Chain-front, Chain-without}

link_below : (links : List (Option ℕ)) (i v : ℕ) → link_at links i ≡ Some v → i < length links
link_below links i v is =
    elim (cases_lt i (length links)) [
      | inl within ↦ within
      | inr past ↦ absurd (none-some v (sym (get_or_past links i None past) ∙ is))
    ]

pub first_among : (xs : List ℕ) (x : ℕ) → first_of xs ≡ Some x → IsMember x xs
first_among [] x is = absurd (none-some x is)
first_among (y ∷ ys) x is = inl (sym (same_Some y x is))

length-back_set : (back : List (Option ℕ)) (at cell : Option ℕ) → length (back_set back at cell) ≡ length back
length-back_set back None cell = refl
length-back_set back (Some x) cell = length-set back x cell

back_set-same : (back : List (Option ℕ)) (at cell : Option ℕ) (y : ℕ) → at ≡ Some y → y < length back → link_at (back_set back at cell) y ≡ cell
back_set-same back None cell y is low = absurd (none-some y is)
back_set-same back (Some x) cell y is low =
    let same : x ≡ y = same_Some x y is in
    rw same (get_or-set_same back y cell None low)

back_set-other : (back : List (Option ℕ)) (at cell : Option ℕ) (z : ℕ) → at ≢ Some z → link_at (back_set back at cell) z ≡ link_at back z
back_set-other back None cell z differs = refl
back_set-other back (Some x) cell z differs = get_or-set_other back x z cell None (λ e. differs (ap Some (sym e)))

nones : {A : Type 0} (n i : ℕ) → get_or (replicate {A = Option A} n None) i None ≡ None
nones zero i = refl
nones (suc n) zero = refl
nones (suc n) (suc i) = nones n i

-- links cut to n, or filled up to n with None, read as before if only None is cut off
pub resized : {A : Type 0} (links : List (Option A)) (n c : ℕ) → (n ≤ c → get_or links c None ≡ None) → get_or (take n links ++ replicate (n - length links) None) c None ≡ get_or links c None
resized [] zero c cut = refl
resized [] (suc n) c cut = let e : suc n - 0 ≡ suc n = omega arith in rw e (nones (suc n) c)
resized (y ∷ ys) zero c cut = let e : 0 - suc (length ys) ≡ 0 = omega arith in rw e (sym (cut (omega arith)))
resized (y ∷ ys) (suc n) zero cut = refl
resized (y ∷ ys) (suc n) (suc c) cut =
    let e : suc n - suc (length ys) ≡ n - length ys = omega arith in
    rw e (resized ys n c (λ far. cut (omega (arith, far))))

pub length-resized : (links : List (Option ℕ)) (n : ℕ) → length (take n links ++ replicate (n - length links) None) ≡ n
length-resized [] zero = refl
length-resized [] (suc n) = let e : suc n - 0 ≡ suc n = omega arith in rw e (length-replicate (suc n) None)
length-resized (y ∷ ys) zero = let e : 0 - suc (length ys) ≡ 0 = omega arith in rw e refl
length-resized (y ∷ ys) (suc n) = let e : suc n - suc (length ys) ≡ n - length ys = omega arith in rw e (ap suc (length-resized ys n))

module _ (k : ℕ) (next back : List (Option ℕ)) (f : ℕ → List ℕ) (held : HoldLists k next back f) where
  off_head : (l : ℕ) → l < k → Off k l (f l)
  off_head l low z there same = omega arith

  pub listed_back : (l x : ℕ) → l < k → IsMember x (f l) → (c : ℕ) × (link_at back x ≡ Some c)
  listed_back l x low there = back-chain k (link_at next) (link_at back) l (f l) x (held.chain l low) there

  pub listed_below : (l x : ℕ) → l < k → IsMember x (f l) → x < length back
  listed_below l x low there = let b = listed_back l x low there in link_below back x b.0 b.1

  pub length-listed : (l : ℕ) → l < k → length (f l) ≤ length back
  length-listed l low = length-distinct_below (length back) (f l) (held.distinct l low) (λ x h. listed_below l x low h)

  -- the walk from a head visits its list
  pub list-is : (l : ℕ) → l < k → list_from k next back l ≡ f l
  list-is l low =
      walk-chain k (link_at next) (link_at back) l (f l) (length back) (held.chain l low) (length-listed l low)

  pub settled : AreLinks k next back
  settled = record {
    size = held.size;
    small = held.small;
    chain = λ l low. (let P : List ℕ → Type 0 = λ xs. Chain k (link_at next) (link_at back) l xs in subst P (sym (list-is l low)) (held.chain l low));
    distinct = λ l low. (let P : List ℕ → Type 0 = λ xs. Distinct xs in subst P (sym (list-is l low)) (held.distinct l low));
    once = λ l m x low low' there there'. (
        let P : List ℕ → Type 0 = λ xs. IsMember x xs in
        held.once l m x low low' (subst P (list-is l low) there) (subst P (list-is m low') there'));
    complete = λ x c is. (
        let found = held.complete x c is in
        let P : List ℕ → Type 0 = λ xs. IsMember x xs in
        (found.0, found.1, subst P (sym (list-is found.0 found.1)) found.2));
    clear = held.clear;
  }

  -- the next link of a slot leads to a slot below the capacity
  forward : (y x : ℕ) (o : Option ℕ) → link_at back y ≡ o → link_at next (k + y) ≡ Some x → x < length back
  forward y x None none is = absurd (none-some x (sym (held.clear y none) ∙ is))
  forward y x (Some b) some is =
      let found = held.complete y b some in
      listed_below found.0 x found.1 (next_among k (link_at next) (link_at back) found.0 (f found.0) y x (held.chain found.0 found.1) found.2 is)

  -- next links lead to slots below the capacity
  pub ahead : (c x : ℕ) → link_at next c ≡ Some x → x < length back
  ahead c x is =
      elim (cases_lt c k) [
        | inl low ↦ listed_below c x low (first_among (f c) x (sym (first-chain k (link_at next) (link_at back) c (f c) (held.chain c low)) ∙ is))
        | inr high ↦
            let cell : k + (c - k) ≡ c = omega arith in
            forward (c - k) x (link_at back (c - k)) refl (ap (link_at next) cell ∙ is)
      ]

  -- back links lead to heads and slots
  pub behind : (x p : ℕ) → link_at back x ≡ Some p → p < k + length back
  behind x p is =
      let found = held.complete x p is in
      elim (before-chain k (link_at next) (link_at back) found.0 (f found.0) x p (held.chain found.0 found.1) found.2 is) [
        | inl e ↦ let low : found.0 < k = found.1 in omega (arith, low, e)
        | inr e ↦ let low : e.0 < length back = listed_below found.0 e.0 found.1 e.1 in let is = e.2 in omega (arith, low, is)
      ]

  pub first-held : (l : ℕ) → l < k → link_at next l ≡ first_of (f l)
  first-held l low = first-chain k (link_at next) (link_at back) l (f l) (held.chain l low)

  pub next-held : (l x : ℕ) → l < k → IsMember x (f l) → link_at next (k + x) ≡ slot_after x (f l)
  next-held l x low there = after-chain k (link_at next) (link_at back) l (f l) x (held.chain l low) there

  -- a slot in no list is removed from none
  pub unlinked-absent : (x : ℕ) → link_at back x ≡ None → (l : ℕ) → l < k → without x (f l) ≡ f l
  unlinked-absent x none l low = without-absent x (f l) (λ h. let b = listed_back l x low h in none-some b.0 (sym none ∙ b.1))

  module _ (x p : ℕ) (own : link_at back x ≡ Some p) where
    abbrev after : Option ℕ
    after = link_at next (k + x)

    abbrev pub cut : List (Option ℕ)
    cut = set (set next p after) (k + x) None

    abbrev pub cut_back : List (Option ℕ)
    cut_back = set (back_set back after (Some p)) x None

    home : (l : ℕ) × (l < k) × IsMember x (f l)
    home = held.complete x p own

    x_below : x < length back
    x_below = link_below back x p own

    length-cut : length cut ≡ length next
    length-cut = length-set (set next p after) (k + x) None ∙ length-set next p after

    length-cut_back : length cut_back ≡ length back
    length-cut_back = length-set (back_set back after (Some p)) x None ∙ length-back_set back after (Some p)

    p_differs : p ≢ k + x
    p_differs e = not_itself k (link_at next) (link_at back) home.0 (f home.0) x (held.chain home.0 home.1) home.2 (held.distinct home.0 home.1) (off_head home.0 home.1) (own ∙ ap Some e)

    cut-joined : link_at cut p ≡ after
    cut-joined = get_or-set_other (set next p after) (k + x) p None None p_differs ∙ get_or-set_same next p after None (let low = behind x p own in let size = held.size in omega (arith, low, size))

    cut-rest : (c : ℕ) → c ≢ p → c ≢ k + x → link_at cut c ≡ link_at next c
    cut-rest c not_p not_x = get_or-set_other (set next p after) (k + x) c None None not_x ∙ get_or-set_other next p c after None not_p

    cut-own : link_at cut (k + x) ≡ None
    cut-own =
        let size = held.size in let low = x_below in let l = length-set next p after in
        get_or-set_same (set next p after) (k + x) None None (omega (arith, size, low, l))

    cut_back-own : link_at cut_back x ≡ None
    cut_back-own = let low = x_below in let l = length-back_set back after (Some p) in get_or-set_same (back_set back after (Some p)) x None None (omega (arith, low, l))

    cut_back-ahead : (y : ℕ) → y ≢ x → after ≡ Some y → link_at cut_back y ≡ Some p
    cut_back-ahead y differs is =
        get_or-set_other (back_set back after (Some p)) x y None None differs ∙ back_set-same back after (Some p) y is (ahead (k + x) y is)

    cut_back-others : (z : ℕ) → z ≢ x → after ≢ Some z → link_at cut_back z ≡ link_at back z
    cut_back-others z differs off =
        get_or-set_other (back_set back after (Some p)) x z None None differs ∙ back_set-other back after (Some p) z off

    after-among : (y : ℕ) → after ≡ Some y → IsMember y (f home.0)
    after-among y is = next_among k (link_at next) (link_at back) home.0 (f home.0) x y (held.chain home.0 home.1) home.2 is

    before : (p ≡ home.0) ⊎ ((q : ℕ) × IsMember q (f home.0) × (p ≡ k + q))
    before = before-chain k (link_at next) (link_at back) home.0 (f home.0) x p (held.chain home.0 home.1) home.2 own

    home-chain : Chain k (link_at cut) (link_at cut_back) home.0 (without x (f home.0))
    home-chain =
        Chain-without k (link_at next) (link_at cut) (link_at back) (link_at cut_back) x p own cut-joined cut-rest cut_back-ahead cut_back-others
        home.0 (f home.0) (held.chain home.0 home.1) home.2 (held.distinct home.0 home.1) (off_head home.0 home.1)

    -- the other lists stay
    module _ (l : ℕ) (low : l < k) (differs : l ≢ home.0) where
      elsewhere : (z : ℕ) → IsMember z (f l) → IsMember z (f home.0) → ⊥
      elsewhere z here there = differs (held.once l home.0 z low home.1 here there)

      head_differs : l ≢ p
      head_differs e = elim before [ inl s ↦ differs (e ∙ s) | inr s ↦ (let is = s.2 in absurd (omega (arith, low, e, is))) ]

      cell_differs : (z : ℕ) → IsMember z (f l) → k + z ≢ p
      cell_differs z there e = elim before [
        | inl s ↦ (let at : home.0 < k = home.1 in absurd (omega (arith, at, e, s)))
        | inr s ↦
            let is = s.2 in
            let same : s.0 ≡ z = omega (arith, e, is) in
            elsewhere z there (let P : ℕ → Type 0 = λ w. IsMember w (f home.0) in subst P same s.1)
      ]

      z_differs : (z : ℕ) → IsMember z (f l) → z ≢ x
      z_differs z there e = elsewhere z there (let P : ℕ → Type 0 = λ w. IsMember w (f home.0) in subst P (sym e) home.2)

      other-chain : Chain k (link_at cut) (link_at cut_back) l (without x (f l))
      other-chain =
          rw (without-absent x (f l) (λ h. z_differs x h refl))
          (Chain-frame k (link_at next) (link_at cut) (link_at back) (link_at cut_back) l (f l) (held.chain l low)
          (cut-rest l head_differs (λ e. omega (arith, low, e)))
          (λ z h. (
            cut-rest (k + z) (cell_differs z h) (λ e. z_differs z h (omega (arith, e))),
            cut_back-others z (z_differs z h) (λ e. elsewhere z h (after-among z e)),
          )))

    cut-chain : (l : ℕ) → l < k → Chain k (link_at cut) (link_at cut_back) l (without x (f l))
    cut-chain l low =
        elim (cases_eq l home.0) [
          | inl same ↦ (let P : ℕ → Type 0 = λ m. Chain k (link_at cut) (link_at cut_back) m (without x (f m)) in subst P (sym same) home-chain)
          | inr differs ↦ other-chain l low differs
        ]

    -- the meaning of a new back link
    link_is : (y : ℕ) → y ≢ x → (o : Option ℕ) → after ≡ o → (IsMember y (f home.0) × (link_at cut_back y ≡ Some p)) ⊎ (link_at cut_back y ≡ link_at back y)
    link_is y differs None none = inr (cut_back-others y differs (λ e. none-some y (sym none ∙ e)))
    link_is y differs (Some w) some =
        elim (cases_eq y w) [
          | inl same ↦ (let is : after ≡ Some y = some ∙ ap Some (sym same) in inl (after-among y is, cut_back-ahead y differs is))
          | inr other ↦ inr (cut_back-others y differs (λ e. other (sym (same_Some w y (sym some ∙ e)))))
        ]

    cut-complete : (y c : ℕ) → link_at cut_back y ≡ Some c → (l : ℕ) × (l < k) × IsMember y (without x (f l))
    cut-complete y c is =
        let differs : y ≢ x = λ e. none-some c (sym cut_back-own ∙ ap (link_at cut_back) (sym e) ∙ is) in
        elim (link_is y differs after refl) [
          | inl t ↦ (home.0, home.1, IsMember-without_other x y (f home.0) t.0 differs)
          | inr t ↦ (let found = held.complete y c (sym t ∙ is) in (found.0, found.1, IsMember-without_other x y (f found.0) found.2 differs))
        ]

    cut-clear : (y : ℕ) → link_at cut_back y ≡ None → link_at cut (k + y) ≡ None
    cut-clear y none =
        elim (cases_eq y x) [
          | inl same ↦ ap (λ w. link_at cut (k + w)) same ∙ cut-own
          | inr differs ↦
              elim (link_is y differs after refl) [
                | inl t ↦ absurd (none-some p (sym none ∙ t.1))
                | inr t ↦
                    let was : link_at back y ≡ None = sym t ∙ none in
                    let not_p : k + y ≢ p = λ e. elim before [
                      | inl s ↦ (let at : home.0 < k = home.1 in absurd (omega (arith, at, e, s)))
                      | inr s ↦
                          let is = s.2 in
                          let same : s.0 ≡ y = omega (arith, e, is) in
                          let b = listed_back home.0 s.0 home.1 s.1 in
                          none-some b.0 (sym was ∙ ap (link_at back) (sym same) ∙ b.1)
                    ] in
                    cut-rest (k + y) not_p (λ e. differs (omega (arith, e))) ∙ held.clear y was
              ]
        ]

    pub unlinked : HoldLists k cut cut_back (λ l. without x (f l))
    unlinked = record {
      size = rw (length-cut, length-cut_back) held.size;
      small = rw length-cut_back held.small;
      chain = cut-chain;
      distinct = λ l low. Distinct-without x (f l) (held.distinct l low);
      once = λ l m z low low' a b. held.once l m z low low' (IsMember-without x z (f l) a) (IsMember-without x z (f m) b);
      complete = cut-complete;
      clear = cut-clear;
    }

  module _ (at x : ℕ) (there : at < k) (below : x < length back) (absent : (l : ℕ) → l < k → IsMember x (f l) → ⊥) where
    abbrev first : Option ℕ
    first = link_at next at

    abbrev pub put : List (Option ℕ)
    put = set (set next (k + x) first) at (Some x)

    abbrev pub put_back : List (Option ℕ)
    put_back = set (back_set back first (Some (k + x))) x (Some at)

    abbrev pub put_lists : ℕ → List ℕ
    put_lists l = if l == at then x ∷ f l else f l

    length-put : length put ≡ length next
    length-put = length-set (set next (k + x) first) at (Some x) ∙ length-set next (k + x) first

    length-put_back : length put_back ≡ length back
    length-put_back = length-set (back_set back first (Some (k + x))) x (Some at) ∙ length-back_set back first (Some (k + x))

    put-head : link_at put at ≡ Some x
    put-head =
        let size = held.size in let l = length-set next (k + x) first in
        get_or-set_same (set next (k + x) first) at (Some x) None (omega (arith, size, there, l))

    put-own : link_at put (k + x) ≡ first
    put-own =
        let size = held.size in
        get_or-set_other (set next (k + x) first) at (k + x) (Some x) None (omega (arith, there))
        ∙ get_or-set_same next (k + x) first None (omega (arith, size, below))

    put-rest : (c : ℕ) → c ≢ at → c ≢ k + x → link_at put c ≡ link_at next c
    put-rest c not_at not_x = get_or-set_other (set next (k + x) first) at c (Some x) None not_at ∙ get_or-set_other next (k + x) c first None not_x

    put_back-own : link_at put_back x ≡ Some at
    put_back-own = let l = length-back_set back first (Some (k + x)) in get_or-set_same (back_set back first (Some (k + x))) x (Some at) None (omega (arith, below, l))

    put_back-first : (y : ℕ) → y ≢ x → first ≡ Some y → link_at put_back y ≡ Some (k + x)
    put_back-first y differs is =
        get_or-set_other (back_set back first (Some (k + x))) x y (Some at) None differs ∙ back_set-same back first (Some (k + x)) y is (ahead at y is)

    put_back-others : (z : ℕ) → z ≢ x → first ≢ Some z → link_at put_back z ≡ link_at back z
    put_back-others z differs off =
        get_or-set_other (back_set back first (Some (k + x))) x z (Some at) None differs ∙ back_set-other back first (Some (k + x)) z off

    z_apart : (l z : ℕ) → l < k → IsMember z (f l) → z ≢ x
    z_apart l z low here e = absent l low (let P : ℕ → Type 0 = λ w. IsMember w (f l) in subst P e here)

    home_chain : Chain k (link_at put) (link_at put_back) at (x ∷ f at)
    home_chain =
        Chain-front k (link_at next) (link_at put) (link_at back) (link_at put_back) at x (f at) there (held.chain at there) (held.distinct at there) (absent at there)
        put-head put-own put-rest put_back-own put_back-first put_back-others

    first-in : (y : ℕ) → first ≡ Some y → IsMember y (f at)
    first-in y is = first_among (f at) y (sym (first-held at there) ∙ is)

    put-chain : (l : ℕ) → l < k → Chain k (link_at put) (link_at put_back) l (put_lists l)
    put-chain l low =
        elim (cases_eq l at) [
          | inl same ↦ rw (eq-eqb l at same) (let P : ℕ → Type 0 = λ m. Chain k (link_at put) (link_at put_back) m (x ∷ f m) in subst P (sym same) home_chain)
          | inr differs ↦
              rw (ne_eqb l at differs)
              (Chain-frame k (link_at next) (link_at put) (link_at back) (link_at put_back) l (f l) (held.chain l low)
              (put-rest l differs (λ e. omega (arith, low, e)))
              (λ z h. (
                put-rest (k + z) (λ e. omega (arith, there, e)) (λ e. z_apart l z low h (omega (arith, e))),
                put_back-others z (z_apart l z low h) (λ e. differs (held.once l at z low there h (first-in z e))),
              )))
        ]

    put-distinct : (l : ℕ) → l < k → Distinct (put_lists l)
    put-distinct l low =
        elim (cases_eq l at) [
          | inl same ↦ rw (eq-eqb l at same) (absent l low, held.distinct l low)
          | inr differs ↦ rw (ne_eqb l at differs) (held.distinct l low)
        ]

    -- a member of a new list is x in the list that x was put into, or was a member before
    put-member : (l z : ℕ) → IsMember z (put_lists l) → ((z ≡ x) × (l ≡ at)) ⊎ IsMember z (f l)
    put-member l z h =
        elim (cases_eq l at) [
          | inl same ↦ elim (let h' : (z ≡ x) ⊎ IsMember z (f l) = rw (eq-eqb l at same) at h in h') [ inl e ↦ inl (e, same) | inr e ↦ inr e ]
          | inr differs ↦ inr (rw (ne_eqb l at differs) at h)
        ]

    put-kept : (l z : ℕ) → IsMember z (f l) → IsMember z (put_lists l)
    put-kept l z h =
        elim (cases_eq l at) [
          | inl same ↦ rw (eq-eqb l at same) (inr h)
          | inr differs ↦ rw (ne_eqb l at differs) h
        ]

    put-once : (l m z : ℕ) → l < k → m < k → IsMember z (put_lists l) → IsMember z (put_lists m) → l ≡ m
    put-once l m z low low' a b =
        elim (put-member l z a) [
          | inl e ↦ elim (put-member m z b) [ inl e' ↦ e.1 ∙ sym e'.1 | inr h ↦ absurd (z_apart m z low' h e.0) ]
          | inr h ↦ elim (put-member m z b) [ inl e' ↦ absurd (z_apart l z low h e'.0) | inr h' ↦ held.once l m z low low' h h' ]
        ]

    put_link_is : (y : ℕ) → y ≢ x → (o : Option ℕ) → first ≡ o → (IsMember y (f at) × (link_at put_back y ≡ Some (k + x))) ⊎ (link_at put_back y ≡ link_at back y)
    put_link_is y differs None none = inr (put_back-others y differs (λ e. none-some y (sym none ∙ e)))
    put_link_is y differs (Some w) some =
        elim (cases_eq y w) [
          | inl same ↦ (let is : first ≡ Some y = some ∙ ap Some (sym same) in inl (first-in y is, put_back-first y differs is))
          | inr other ↦ inr (put_back-others y differs (λ e. other (sym (same_Some w y (sym some ∙ e)))))
        ]

    put-complete : (y c : ℕ) → link_at put_back y ≡ Some c → (l : ℕ) × (l < k) × IsMember y (put_lists l)
    put-complete y c is =
        elim (cases_eq y x) [
          | inl same ↦ (at, there, rw (eq-eqb at at refl) (inl same))
          | inr differs ↦
              elim (put_link_is y differs first refl) [
                | inl t ↦ (at, there, put-kept at y t.0)
                | inr t ↦ (let found = held.complete y c (sym t ∙ is) in (found.0, found.1, put-kept found.0 y found.2))
              ]
        ]

    put-clear : (y : ℕ) → link_at put_back y ≡ None → link_at put (k + y) ≡ None
    put-clear y none =
        let differs : y ≢ x = λ e. none-some at (sym none ∙ ap (link_at put_back) e ∙ put_back-own) in
        elim (put_link_is y differs first refl) [
          | inl t ↦ absurd (none-some (k + x) (sym none ∙ t.1))
          | inr t ↦ put-rest (k + y) (λ e. omega (arith, there, e)) (λ e. differs (omega (arith, e))) ∙ held.clear y (sym t ∙ none)
        ]

    pub linked : HoldLists k put put_back put_lists
    linked = record {
      size = rw (length-put, length-put_back) held.size;
      small = rw length-put_back held.small;
      chain = put-chain;
      distinct = put-distinct;
      once = put-once;
      complete = put-complete;
      clear = put-clear;
    }

  -- links with the same values hold the same lists
  pub alike : (next' back' : List (Option ℕ)) → k + length back' ≤ length next' → k + length back' ≤ end_of_links
      → ((c : ℕ) → link_at next' c ≡ link_at next c) → ((x : ℕ) → link_at back' x ≡ link_at back x) → HoldLists k next' back' f
  alike next' back' size small same same_back = record {
    size = size;
    small = small;
    chain = λ l low. Chain-frame k (link_at next) (link_at next') (link_at back) (link_at back') l (f l) (held.chain l low) (same l) (λ z h. (same (k + z), same_back z));
    distinct = held.distinct;
    once = held.once;
    complete = λ x c is. held.complete x c (sym (same_back x) ∙ is);
    clear = λ x none. same (k + x) ∙ held.clear x (sym (same_back x) ∙ none);
  }

  next_none : (n : ℕ) → length back < n → (c : ℕ) → k + n ≤ c → link_at next c ≡ None
  next_none n more c far =
      let cell : k + (c - k) ≡ c = omega (arith, far) in
      ap (link_at next) (sym cell) ∙ held.clear (c - k) (get_or_past back (c - k) None (omega (arith, far, more)))

  -- a growth to n slots keeps the lists
  pub grown : (n : ℕ) → length back < n → k + n ≤ end_of_links → (next' back' : List (Option ℕ)) → length next' ≡ k + n
      → next' ≡ take (k + n) next ++ replicate (k + n - length next) None → back' ≡ take n back ++ replicate (n - length back) None → HoldLists k next' back' f
  grown n more small next' back' len is is_back =
      let len_back : length back' ≡ n = ap length is_back ∙ length-resized back n in
      alike next' back' (omega (arith, len, len_back)) (omega (arith, small, len_back))
      (λ c. ap (λ xs. link_at xs c) is ∙ resized next (k + n) c (next_none n more c))
      (λ x. ap (λ xs. link_at xs x) is_back ∙ resized back n x (λ far. get_or_past back x None (omega (arith, far, more))))

  -- a growth of the next links alone keeps the lists too
  pub half_grown : (n : ℕ) → length back < n → (next' : List (Option ℕ)) → length next' ≡ k + n
      → next' ≡ take (k + n) next ++ replicate (k + n - length next) None → HoldLists k next' back f
  half_grown n more next' len is =
      let small = held.small in
      alike next' back (omega (arith, len, more)) small (λ c. ap (λ xs. link_at xs c) is ∙ resized next (k + n) c (next_none n more c)) (λ x. refl)
