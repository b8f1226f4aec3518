-- A chain of links visits the slots of its list, also after one is added in front or removed.
use Rattle.std.proofs.Common.{◌≡◌, ◌≢◌, ◌⊎◌, ℕ, zero, suc, ◌<◌, ◌≤◌, ◌+◌, eqb, List, [], ◌∷◌, length, Option, Some, inl, inr, subst, sym, ap, ◌∙◌, refl, arith}
use Rattle.std.proofs.lemmas.Bool.{cases_Bool, eq-eqb, ne_eqb, eqb-true, eqb-false}
use Rattle.std.proofs.lemmas.Option.{none-some, same_Some}
use Rattle.bm_maps.specs.SlotLists.{IsMember, Distinct, without, first_of, slot_after}
use Rattle.bm_queues.specs.Links.{walk, Chain}
use Rattle.bm_maps.proofs.SlotLists.{apart}

-- the cell is none of the slots' cells
abbrev pub Off : ℕ → ℕ → List ℕ → Type 0
Off k cell xs = (z : ℕ) → IsMember z xs → cell ≢ k + z

-- the cell of a slot that is not in the list is none of the cells of its slots
off_slot : (k y : ℕ) (ys : List ℕ) → (IsMember y ys → ⊥) → Off k (k + y) ys
off_slot k y ys absent z there e =
    let same : z ≡ y = omega (arith, e) in
    absent (let P : ℕ → Type 0 = λ w. IsMember w ys in subst P same there)

-- writes elsewhere do not change a chain
pub Chain-frame : (k : ℕ) (next new back new_back : ℕ → Option ℕ) (cell : ℕ) (xs : List ℕ) → Chain k next back cell xs → new cell ≡ next cell → ((z : ℕ) → IsMember z xs → (new (k + z) ≡ next (k + z)) × (new_back z ≡ back z)) → Chain k new new_back cell xs
Chain-frame k next new back new_back cell [] chain here same = here ∙ chain
Chain-frame k next new back new_back cell (x ∷ xs) chain here same =
    let at = same x (inl refl) in
    (here ∙ chain.0, at.1 ∙ chain.1, Chain-frame k next new back new_back (k + x) xs chain.2 at.0 (λ z h. same z (inr h)))

-- the walk by the next links visits the slots of a chain
pub walk-chain : (k : ℕ) (next back : ℕ → Option ℕ) (cell : ℕ) (xs : List ℕ) (n : ℕ) → Chain k next back cell xs → length xs ≤ n → walk (λ x. next (k + x)) n (next cell) ≡ xs
walk-chain k next back cell [] zero chain fits = refl
walk-chain k next back cell [] (suc n) chain fits = rw chain refl
walk-chain k next back cell (x ∷ xs) zero chain fits = absurd (omega arith)
walk-chain k next back cell (x ∷ xs) (suc n) chain fits =
    rw chain.0 (ap (λ ys. x ∷ ys) (walk-chain k next back (k + x) xs n chain.2 (omega arith)))

-- the first slot of a chain
pub first-chain : (k : ℕ) (next back : ℕ → Option ℕ) (cell : ℕ) (xs : List ℕ) → Chain k next back cell xs → next cell ≡ first_of xs
first-chain k next back cell [] chain = chain
first-chain k next back cell (x ∷ xs) chain = chain.0

-- the next link of a slot of a chain leads to the slot that follows
pub after-chain : (k : ℕ) (next back : ℕ → Option ℕ) (cell : ℕ) (xs : List ℕ) (x : ℕ) → Chain k next back cell xs → IsMember x xs → next (k + x) ≡ slot_after x xs
after-chain k next back cell [] x chain there = absurd there
after-chain k next back cell (y ∷ ys) x chain there =
    elim (cases_Bool (eqb y x)) [
      | inl here ↦ rw here (ap (λ w. next (k + w)) (sym (eqb-true y x here)) ∙ first-chain k next back (k + y) ys chain.2)
      | inr other ↦
          rw other (elim there [
            | inl same ↦ absurd (eqb-false y x other (sym same))
            | inr later ↦ after-chain k next back (k + y) ys x chain.2 later
          ])
    ]

-- a slot of a chain has a back link
pub back-chain : (k : ℕ) (next back : ℕ → Option ℕ) (cell : ℕ) (xs : List ℕ) (x : ℕ) → Chain k next back cell xs → IsMember x xs → (c : ℕ) × (back x ≡ Some c)
back-chain k next back cell [] x chain there = absurd there
back-chain k next back cell (y ∷ ys) x chain (inl same) = (cell, ap back same ∙ chain.1)
back-chain k next back cell (y ∷ ys) x chain (inr there) = back-chain k next back (k + y) ys x chain.2 there

-- a back link leads to the chain's own cell or to the cell of a slot of the chain
pub before-chain : (k : ℕ) (next back : ℕ → Option ℕ) (cell : ℕ) (xs : List ℕ) (x p : ℕ) → Chain k next back cell xs → IsMember x xs → back x ≡ Some p → (p ≡ cell) ⊎ ((q : ℕ) × IsMember q xs × (p ≡ k + q))
before-chain k next back cell [] x p chain there is = absurd there
before-chain k next back cell (y ∷ ys) x p chain (inl same) is = inl (same_Some p cell (sym is ∙ ap back same ∙ chain.1))
before-chain k next back cell (y ∷ ys) x p chain (inr there) is =
    elim (before-chain k next back (k + y) ys x p chain.2 there is) [
      | inl e ↦ inr (y, inl refl, e)
      | inr e ↦ inr (e.0, inr e.1, e.2)
    ]

-- a slot of a chain that visits each once does not link back to itself
pub not_itself : (k : ℕ) (next back : ℕ → Option ℕ) (cell : ℕ) (xs : List ℕ) (x : ℕ) → Chain k next back cell xs → IsMember x xs → Distinct xs → Off k cell xs → back x ≢ Some (k + x)
not_itself k next back cell [] x chain there distinct off e = there
not_itself k next back cell (y ∷ ys) x chain (inl same) distinct off e =
    off x (inl same) (same_Some cell (k + x) (sym chain.1 ∙ ap back (sym same) ∙ e))
not_itself k next back cell (y ∷ ys) x chain (inr there) distinct off e =
    not_itself k next back (k + y) ys x chain.2 there distinct.1 (off_slot k y ys distinct.0) e

-- the next link of a slot of a chain leads to a slot of the chain, or nowhere
pub next_among : (k : ℕ) (next back : ℕ → Option ℕ) (cell : ℕ) (xs : List ℕ) (x q : ℕ) → Chain k next back cell xs → IsMember x xs → next (k + x) ≡ Some q → IsMember q xs
next_among k next back cell [] x q chain there is = absurd there
next_among k next back cell (y ∷ []) x q chain (inl same) is =
    absurd (none-some q (sym chain.2 ∙ ap (λ w. next (k + w)) (sym same) ∙ is))
next_among k next back cell (y ∷ z ∷ zs) x q chain (inl same) is =
    inr (inl (same_Some q z (sym is ∙ ap (λ w. next (k + w)) same ∙ chain.2.0)))
next_among k next back cell (y ∷ ys) x q chain (inr there) is = inr (next_among k next back (k + y) ys x q chain.2 there is)

cell_apart : (k x z : ℕ) → x ≢ z → k + x ≢ k + z
cell_apart k x z differs = omega (arith, differs)

-- the chain of a list after a slot that was not in it was added in front
pub Chain-front : (k : ℕ) (next new back new_back : ℕ → Option ℕ) (l x : ℕ) (xs : List ℕ) → l < k → Chain k next back l xs → Distinct xs → (IsMember x xs → ⊥)
    → new l ≡ Some x → new (k + x) ≡ next l → ((c : ℕ) → c ≢ l → c ≢ k + x → new c ≡ next c)
    → new_back x ≡ Some l → ((y : ℕ) → y ≢ x → next l ≡ Some y → new_back y ≡ Some (k + x)) → ((z : ℕ) → z ≢ x → next l ≢ Some z → new_back z ≡ back z)
    → Chain k new new_back l (x ∷ xs)
Chain-front k next new back new_back l x [] low chain distinct fresh head own rest link first others = (head, link, own ∙ chain)
Chain-front k next new back new_back l x (y ∷ ys) low chain distinct fresh head own rest link first others =
    let y_apart : y ≢ x = apart x y (y ∷ ys) fresh (inl refl) in (
      head,
      link,
      (
        own ∙ chain.0,
        first y y_apart chain.0,
        Chain-frame k next new back new_back (k + y) ys chain.2 (rest (k + y) (λ e. omega (arith, low, e)) (cell_apart k y x y_apart)) (λ z h.
            let z_apart : z ≢ x = apart x z (y ∷ ys) fresh (inr h) in
            (rest (k + z) (λ e. omega (arith, low, e)) (cell_apart k z x z_apart), others z z_apart (λ e. apart y z ys distinct.0 h (sym (same_Some y z (sym chain.0 ∙ e)))))),
      ),
    )

-- removing slot x of a list: the cell p before it links to the slot after it, which links back to p
module _ (k : ℕ) (next new back new_back : ℕ → Option ℕ) (x p : ℕ) (own : back x ≡ Some p)
    (joined : new p ≡ next (k + x)) (rest : (c : ℕ) → c ≢ p → c ≢ k + x → new c ≡ next c)
    (ahead : (y : ℕ) → y ≢ x → next (k + x) ≡ Some y → new_back y ≡ Some p) (others : (z : ℕ) → z ≢ x → next (k + x) ≢ Some z → new_back z ≡ back z) where
  -- the slots after x
  Chain-past : (zs : List ℕ) → Chain k next back (k + x) zs → Distinct zs → (IsMember x zs → ⊥) → Off k p zs → Chain k new new_back p zs
  Chain-past [] chain distinct fresh off = joined ∙ chain
  Chain-past (z ∷ zs) chain distinct fresh off =
      let z_apart : z ≢ x = apart x z (z ∷ zs) fresh (inl refl) in (
        joined ∙ chain.0,
        ahead z z_apart chain.0,
        Chain-frame k next new back new_back (k + z) zs chain.2 (rest (k + z) (λ e. off z (inl refl) (sym e)) (cell_apart k z x z_apart)) (λ w h.
            let w_apart : w ≢ x = apart x w (z ∷ zs) fresh (inr h) in
            (rest (k + w) (λ e. off w (inr h) (sym e)) (cell_apart k w x w_apart), others w w_apart (λ e. apart z w zs distinct.0 h (sym (same_Some z w (sym chain.0 ∙ e)))))),
      )

  pub Chain-without : (cell : ℕ) (xs : List ℕ) → Chain k next back cell xs → IsMember x xs → Distinct xs → Off k cell xs → Chain k new new_back cell (without x xs)
  Chain-without cell [] chain there distinct off = absurd there
  Chain-without cell (y ∷ ys) chain (inl same) distinct off =
      let here : p ≡ cell = same_Some p cell (sym own ∙ ap back same ∙ chain.1) in
      let tail : Chain k next back (k + x) ys = rw same chain.2 in
      let fresh : IsMember x ys → ⊥ = rw same distinct.0 in
      let gone : Chain k new new_back p ys = Chain-past ys tail distinct.1 fresh (λ z h. rw here (off z (inr h))) in
      rw (eq-eqb y x (sym same), ← here) gone
  Chain-without cell (y ∷ ys) chain (inr there) distinct off =
      let differs : y ≢ x = λ e. distinct.0 (let P : ℕ → Type 0 = λ w. IsMember w ys in subst P (sym e) there) in
      let not_before : cell ≢ p = λ e. elim (before-chain k next back (k + y) ys x p chain.2 there own) [
        | inl s ↦ off y (inl refl) (e ∙ s)
        | inr s ↦ off s.0 (inr s.1) (e ∙ s.2)
      ] in
      let not_behind : next (k + x) ≢ Some y = λ e. distinct.0 (next_among k next back (k + y) ys x y chain.2 there e) in
      rw (ne_eqb y x differs) (
        rest cell not_before (off x (inr there)) ∙ chain.0,
        others y differs not_behind ∙ chain.1,
        Chain-without (k + y) ys chain.2 there distinct.1 (off_slot k y ys distinct.0),
      )
