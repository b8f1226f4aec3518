-- An iteration by index over a list of storages ends with each of them done.
use Rattle.std.specs.Prelude.{◌≡◌, ◌⊎◌, ℕ, zero, suc, ◌+◌, ◌<◌, ◌≤◌, ◌==◌, ◌||◌, Bool, true, false, List, [], ◌∷◌, length, Option}
use Rattle.std.proofs.Common.{get_or, refl, sym, ap, subst, ◌∙◌, arith, inl, inr, eqb-true}
use Rattle.std.proofs.lemmas.Bool.{cases_eq, false≢true, or_left, or_right}
use Rattle.std.proofs.lemmas.Grind.{get_or_default_zero}
use Rattle.bm_base.specs.Maps.Lists.{has}
use Rattle.bm_maps.specs.SlotLists.{IsMember}
use Rattle.bm_base.proofs.ListTests.{same_again}
use Rattle.bm_arena.specs.Contents.{Contents, block_at, list_of}
use Rattle.bm_levels.specs.IndexedLevels.{IndexedLevels, IsClassified, IsSameAt}
use Rattle.bm_levels.proofs.StatusUpdates.{classified_still, same_chain}

-- a number of a list has an index
has_index : (ss : List ℕ) (s : ℕ) → has ss s ≡ true → (i : ℕ) × (i < length ss) × (get_or ss i 0 ≡ s)
has_index [] s e = absurd (false≢true e)
has_index (x ∷ xs) s e = by (x == s) refl e (λ later. has_index xs s later)
  where
    by : (b : Bool) → (x == s) ≡ b → (b || has xs s) ≡ true → (has xs s ≡ true → (i : ℕ) × (i < length xs) × (get_or xs i 0 ≡ s)) → (i : ℕ) × (i < length (x ∷ xs)) × (get_or (x ∷ xs) i 0 ≡ s)
    by true same _ rest = (0, omega arith, eqb-true x s same)
    by false _ later rest = let r = rest later in (suc r.0, omega (arith, r.1), r.2)

has_at : (ss : List ℕ) (i : ℕ) → i < length ss → has ss (get_or ss i 0) ≡ true
has_at [] i lt = absurd (omega (arith, lt))
has_at (x ∷ xs) zero lt = or_left (x == x) (has xs x) (same_again x)
has_at (x ∷ xs) (suc i) lt = or_right (x == get_or xs i 0) (has xs (get_or xs i 0)) (has_at xs i (omega (arith, lt)))

pub own_at : (ss : List ℕ) (i s : ℕ) → i < length ss → s ≡ get_or ss i s → has ss s ≡ true
own_at ss i s lt is = ap (has ss) (is ∙ get_or_default_zero ss i s lt) ∙ has_at ss i lt

module _ (ss : List ℕ) (P : ℕ → Type 0) where
  -- the numbers at the indexes before this one have the property
  abbrev pub HaveGone : ℕ → Type 0
  HaveGone index = (i : ℕ) → i < index → P (get_or ss i 0)

  pub gone_all : (index : ℕ) → length ss ≤ index → HaveGone index → (s : ℕ) → has ss s ≡ true → P s
  gone_all index past h s there = let k = has_index ss s there in subst P k.2 (h k.0 (omega (arith, k.1, past)))

-- one more number has its property, and those before it have theirs
pub gone_more : (ss : List ℕ) (P Q : ℕ → Type 0) (index s : ℕ) → index < length ss → s ≡ get_or ss index s → HaveGone ss P index → ((t : ℕ) → P t → Q t) → Q s → HaveGone ss Q (index + 1)
gone_more ss P Q index s below is h still here i lt = elim (cases_eq i index) [
  | inl same ↦ subst Q (is ∙ get_or_default_zero ss index s below ∙ ap (λ k. get_or ss k 0) (sym same)) here
  | inr differs ↦ still (get_or ss i 0) (h i (omega (arith, lt, differs)))
]

-- the slots on one more storage are classified
pub classified_next : (rack : ℕ → Option ℕ) (draining : ℕ → Bool) (multi : Bool) (a : Contents) (ss : List ℕ) (index s slot : ℕ) (K L M : IndexedLevels) → index < length ss → s ≡ get_or ss index s
    → IsClassified rack draining multi (block_at a slot) L slot ⊎ (IsSameAt K L slot × HaveGone ss (λ t. IsMember slot (list_of a t) → ⊥) index)
    → IsClassified rack draining multi (block_at a slot) M slot ⊎ (IsSameAt L M slot × (IsMember slot (list_of a s) → ⊥))
    → IsClassified rack draining multi (block_at a slot) M slot ⊎ (IsSameAt K M slot × HaveGone ss (λ t. IsMember slot (list_of a t) → ⊥) (index + 1))
classified_next rack draining multi a ss index s slot K L M below is before after = elim after [
  | inl status ↦ inl status
  | inr same ↦ elim before [
    | inl was ↦ inl (classified_still rack draining multi (block_at a slot) L M slot was same.0)
    | inr was ↦ inr (same_chain K L M slot was.0 same.0, gone_more ss (λ t. IsMember slot (list_of a t) → ⊥) (λ t. IsMember slot (list_of a t) → ⊥) index s below is was.1 (λ t h. h) same.1)
  ]
]
