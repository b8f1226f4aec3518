-- After one more row or list is copied, a buffer holds the rows so far and then its old rest.
use Rattle.std.proofs.Common.{◌≡◌, ◌<◌, ◌+◌, ◌-◌, ◌++◌, ◌∷◌, [], ℕ, zero, suc, List, arith, length, map, flat_map, take, drop, set, get_or, min, ap, ap₂, sym, ◌∙◌}
use Rattle.std.proofs.lemmas.List.{set_at, length-map, length-take, length-drop, length-append, drop_more, map_more, take_more, take_at, drop_at, drop-drop, take_min, take_rest, drop_all, append-nil}
use Rattle.std.proofs.lemmas.Grind.{flat_map-append}
use Rattle.std.proofs.lemmas.List.Concat.{flat_map-cons}
use Rattle.std.proofs.Math.Seq.{take-nil, drop-nil}
use Rattle.std.specs.List.{take-map, drop-map}
use borrow.Rule.Slice.PartMut.{put_mid}
use mathlib.Core.List.{append_assoc}

pub one_more : {X Y : Type 0} (f : X → Y) (xs : List X) (old ys : List Y) (i : ℕ) (x : X) → i < length xs → i < length old → ys ≡ map f (take i xs) ++ drop i old → x ≡ get_or xs i x → set ys i (f x) ≡ map f (take (i + 1) xs) ++ drop (i + 1) old
one_more f xs old ys i x lt bound h is =
    let front = map f (take i xs) in
    let long : length front ≡ i = length-map (take i xs) f ∙ omega (arith, length-take i xs) in
    let parts : ys ≡ front ++ get_or old i (f x) ∷ drop (i + 1) old = h ∙ ap (λ l. front ++ l) (drop_more old i (f x) bound) in
    ap (λ l. set l i (f x)) parts ∙ set_at front _ _ (f x) i long ∙ sym (append_assoc front (f x ∷ []) _)
    ∙ ap (λ l. l ++ drop (i + 1) old) (ap (λ y. front ++ f y ∷ []) is ∙ sym (map_more f xs i x lt))

drop_both : {Y : Type 0} (n : ℕ) (xs ys : List Y) → drop n (xs ++ ys) ≡ drop n xs ++ drop (n - length xs) ys
drop_both n [] ys = let e : n - 0 ≡ n = omega arith in ap₂ (λ a b. a ++ b) (sym (drop-nil n)) (ap (λ k. drop k ys) (sym e))
drop_both zero (x ∷ xs) ys = let e : 0 - length (x ∷ xs) ≡ 0 = omega arith in ap (λ k. (x ∷ xs) ++ drop k ys) (sym e)
drop_both (suc n) (x ∷ xs) ys = let e : suc n - length (x ∷ xs) ≡ n - length xs = omega arith in drop_both n xs ys ∙ ap (λ k. drop n xs ++ drop k ys) (sym e)

take_both : {Y : Type 0} (n : ℕ) (xs ys : List Y) → take n (xs ++ ys) ≡ take n xs ++ take (n - length xs) ys
take_both n [] ys = let e : n - 0 ≡ n = omega arith in ap₂ (λ a b. a ++ b) (sym (take-nil n)) (ap (λ k. take k ys) (sym e))
take_both zero (x ∷ xs) ys = let e : 0 - length (x ∷ xs) ≡ 0 = omega arith in ap (λ k. take k ys) (sym e)
take_both (suc n) (x ∷ xs) ys = let e : suc n - length (x ∷ xs) ≡ n - length xs = omega arith in ap (λ l. x ∷ l) (take_both n xs ys ∙ ap (λ k. take n xs ++ take k ys) (sym e))

-- one more list of several, copied after those before
one_list : {Y : Type 0} (old now after all r : List Y) (from left count copied : ℕ)
    → count ≡ min (length old) (length (drop from all)) → now ≡ take count (drop from all) ++ drop count old
    → left ≡ from - length all → copied ≡ min (length (drop count now)) (length (drop left r))
    → after ≡ take count now ++ (take copied (drop left r) ++ drop copied (drop count now))
    → (count + copied ≡ min (length old) (length (drop from (all ++ r)))) × (after ≡ take (count + copied) (drop from (all ++ r)) ++ drop (count + copied) old)
one_list old now after all r from left count copied is held lefts is_copied is_after =
    let D = drop from all in let E = drop left r in
    let whole : drop from (all ++ r) ≡ D ++ E = drop_both from all r ∙ ap (λ k. D ++ drop k r) (sym lefts) in
    let long : length (take count D) ≡ count = omega (arith, length-take count D, is) in
    let front : take count now ≡ take count D = ap (take count) held ∙ take_at (take count D) (drop count old) count long in
    let back : drop count now ≡ drop count old = ap (drop count) held ∙ drop_at (take count D) (drop count old) count long in
    let bound : copied ≡ min (length old - count) (length E) = omega (arith, is_copied, ap length back, length-drop count old) in
    let total : count + copied ≡ min (length old) (length (drop from (all ++ r))) = omega (arith, is, bound, ap length whole, length-append D E) in
    let same : min (count + copied) (length D) ≡ min count (length D) = omega (arith, is, bound) in
    let rest : count + copied - length D ≡ copied = omega (arith, is, bound) in
    let first : take (count + copied) D ≡ take count D = sym (take_min (count + copied) D) ∙ ap (λ k. take k D) same ∙ take_min count D in
    let rows : take count D ++ take copied E ≡ take (count + copied) (drop from (all ++ r)) =
    ap₂ (λ a k. a ++ take k E) (sym first) (sym rest) ∙ sym (take_both (count + copied) D E) ∙ ap (take (count + copied)) (sym whole) in
    (total, is_after ∙ ap₂ (λ a b. a ++ (take copied E ++ drop copied b)) front back ∙ sym (append_assoc (take count D) (take copied E) _) ∙ ap₂ (λ a b. a ++ b) rows (drop-drop copied count old))

-- `one_list` for a list of items, if the rest of `out` is borrowed for it
pub one_node : {X Y : Type 0} (f : X → Y) (items : List X) (old now new : List Y) (all more : List Y) (from left count copied : ℕ)
    → more ≡ all ++ map f items
    → count ≡ min (length old) (length (drop from all)) → now ≡ take count (drop from all) ++ drop count old
    → left ≡ from - length all
    → copied ≡ min (length (take (length now - count) (drop count now))) (length (drop left items))
    → new ≡ map f (take copied (drop left items)) ++ drop copied (take (length now - count) (drop count now))
    → (count + copied ≡ min (length old) (length (drop from more))) × (put_mid count (length now - count) now new ≡ take (count + copied) (drop from more) ++ drop (count + copied) old)
one_node f items old now new all more from left count copied whole is held lefts is_copied is_new =
    let r = map f items in
    let rest : take (length now - count) (drop count now) ≡ drop count now = take_rest now count in
    let as_many : length (drop left r) ≡ length (drop left items) = omega (arith, length-drop left r, length-drop left items, length-map items f) in
    let bound : copied ≡ min (length (drop count now)) (length (drop left r)) = omega (arith, is_copied, ap length rest, as_many) in
    let rows : map f (take copied (drop left items)) ≡ take copied (drop left r) = sym (take-map f copied (drop left items)) ∙ ap (take copied) (sym (drop-map f left items)) in
    let new_is : new ≡ take copied (drop left r) ++ drop copied (drop count now) = is_new ∙ ap₂ (λ a b. a ++ drop copied b) rows rest in
    let end : drop (length now - count) (drop count now) ≡ [] = drop_all (length now - count) (drop count now) (omega (arith, length-drop count now)) in
    let put : put_mid count (length now - count) now new ≡ take count now ++ (take copied (drop left r) ++ drop copied (drop count now)) =
    ap (λ l. take count now ++ l) (ap (λ l. new ++ l) end ∙ append-nil new ∙ new_is) in
    let done = one_list old now _ all r from left count copied is held lefts bound put in
    rw whole done

pub flat_more : {X Y : Type 0} (f : X → List Y) (xs : List X) (i : ℕ) (d : X) → i < length xs → flat_map f (take (i + 1) xs) ≡ flat_map f (take i xs) ++ f (get_or xs i d)
flat_more f xs i d lt = ap (flat_map f) (take_more xs i d lt) ∙ flat_map-append f (take i xs) (get_or xs i d ∷ []) ∙ ap (λ l. flat_map f (take i xs) ++ l) (flat_map-cons f (get_or xs i d) [] ∙ append-nil _)
