-- A read or a write at the index of a storage's key reads or writes that storage's head.
use Rattle.std.proofs.Common.{◌≡◌, ℕ, zero, suc, true, false, eqb, List, [], ◌∷◌, get_or, Option, Some, slice_get, position, refl, sym, ap, ◌∙◌, subst}
use Rattle.std.specs.Prelude.{nat_eq}
use Rattle.std.specs.Map.{set_value, keys_of}
use Rattle.std.specs.List.{IsDistinct, AllByRecursion}
use Rattle.std.proofs.lemmas.Bool.{eqb-true, eqb-false, eq-eqb, ne_eqb}
use Rattle.std.proofs.lemmas.Option.{none-some, same_Some}
use Rattle.std.proofs.lemmas.List.Quantifiers.{position-Some}
use Rattle.indexmap.specs.IndexMap.{set_value_at}

key-read : (s d : ℕ) (v : Option ℕ) (es : List (ℕ × Option ℕ)) (i : ℕ) → slice_get es i ≡ Some (s, v) → get_or (keys_of es) i d ≡ s
key-read s d v [] i at = absurd (none-some (s, v) at)
key-read s d v (e ∷ es) zero at = ap (λ p. p.0) (same_Some e (s, v) at)
key-read s d v (e ∷ es) (suc i) at = key-read s d v es i at

-- the key at the index at which a key is found is that key
pub found-at : (s k : ℕ) (v : Option ℕ) (es : List (ℕ × Option ℕ)) (i : ℕ) → position (nat_eq s) (keys_of es) ≡ Some i → slice_get es i ≡ Some (k, v) → slice_get es i ≡ Some (s, v)
found-at s k v es i found at =
    let same : s ≡ k = eqb-true s k (subst (λ q. eqb s q ≡ true) (key-read k 0 v es i at) (position-Some (nat_eq s) (keys_of es) i 0 found).1) in
    at ∙ ap (λ q. Some (q, v)) (sym same)

apart-at : (s k : ℕ) (v : Option ℕ) (es : List (ℕ × Option ℕ)) (i : ℕ) → AllByRecursion (λ q. eqb k q ≡ false) (keys_of es) → slice_get es i ≡ Some (s, v) → eqb k s ≡ false
apart-at s k v [] i apart at = absurd (none-some (s, v) at)
apart-at s k v (e ∷ es) zero apart at = subst (λ q. eqb k q ≡ false) (ap (λ p. p.0) (same_Some e (s, v) at)) apart.0
apart-at s k v (e ∷ es) (suc i) apart at = apart-at s k v es i apart.1 at

-- a write at the index of a key is a write at that key
pub set-at : (s : ℕ) (v w : Option ℕ) (es : List (ℕ × Option ℕ)) (i : ℕ) → IsDistinct nat_eq (keys_of es) → slice_get es i ≡ Some (s, v) → set_value_at es i w ≡ set_value (nat_eq s) es w
unfolding IsDistinct
set-at s v w [] i distinct at = absurd (none-some (s, v) at)
set-at s v w (e ∷ es) zero distinct at =
    let here : eqb s e.0 ≡ true = eq-eqb s e.0 (sym (ap (λ p. p.0) (same_Some e (s, v) at))) in
    rw here refl
set-at s v w (e ∷ es) (suc i) distinct at =
    let other : eqb s e.0 ≡ false = ne_eqb s e.0 (λ same. eqb-false e.0 s (apart-at s e.0 v es i distinct.0 at) (sym same)) in
    rw other (ap (λ xs. e ∷ xs) (set-at s v w es i distinct.1 at))
