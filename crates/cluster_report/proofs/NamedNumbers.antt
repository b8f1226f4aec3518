-- A report names a number if and only if the number is within one of its runs.
use Rattle.std.proofs.Common.{◌≡◌, ℕ, Bool, ◌&&◌, ◌||◌, List, [], ◌∷◌, map, refl, sym, ap, ◌∙◌}
use Rattle.std.specs.Prelude.{◌==◌, nat_le}
use Rattle.std.specs.List.{list_any}
use Rattle.bm_base.specs.declared.event.Entry.{Entry}
use Rattle.bm_base.specs.Words.{blocks_of_entry, expanded, is_named}
use Rattle.bm_base.proofs.Entries.{has-reported_by}
use Rattle.bm_parts.proofs.HeldBack.{any_flat}

any_mapped : {X Y : Type 0} (p : Y → Bool) (f : X → Y) (xs : List X) → list_any p (map f xs) ≡ list_any (λ x. p (f x)) xs
any_mapped p f [] = refl
any_mapped p f (x ∷ xs) = ap (λ b. p (f x) || b) (any_mapped p f xs)

any_same : {X : Type 0} (p q : X → Bool) (xs : List X) → ((x : X) → p x ≡ q x) → list_any p xs ≡ list_any q xs
any_same p q [] h = refl
any_same p q (x ∷ xs) h = λ i. h x i || any_same p q xs h i

pub named_by : (e : Entry) (b : ℕ) → list_any (λ t. t.id == b) (blocks_of_entry e) ≡ (nat_le e.from b && nat_le b e.to)
named_by e b = sym (any_mapped (λ x. x == b) (λ t. t.id) (blocks_of_entry e)) ∙ has-reported_by e b

pub named_in : (es : List Entry) (b : ℕ) → is_named (expanded es) b ≡ list_any (λ e. nat_le e.from b && nat_le b e.to) es
unfolding is_named expanded
named_in es b = any_flat (λ t. t.id == b) blocks_of_entry es ∙ any_same _ _ es (λ e. named_by e b)
