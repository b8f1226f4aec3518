-- A change that adds no entry and loses no block or replica makes no unused entry, nor does a drop.
use Rattle.std.specs.Prelude.{◌≡◌, ◌≢◌, ℕ, Bool, true, false, not, ◌&&◌, ◌==◌, if◌then◌else◌, nat_eq, List, [], ◌∷◌, length, Option, Some, None, IsSome, IsTrue, is_some, option_and_then}
use Rattle.std.specs.Option.{option_map_or}
use Rattle.std.specs.Map.{lookup, set_value}
use Rattle.std.proofs.Common.{cond, eqb, refl, sym, ap, subst, ◌∙◌, inl, inr}
use Rattle.std.proofs.lemmas.Option.{same_Some, none-some}
use Rattle.std.proofs.lemmas.Bool.{cases_eq, cases_Bool, eq-eqb, false≢true}
use Rattle.bm_base.specs.declared.replica.Marks.{Marks}
use Rattle.bm_base.specs.Words.{get, replica_at}
use Rattle.bm_maps.specs.SlotLists.{without}
use Rattle.bm_base.proofs.Options.{there}
use Rattle.bm_arena.specs.Triplets.{Block}
use Rattle.bm_arena.specs.Contents.{Contents, block_at, slot_of, find_marks, list_of, HasHead, unlinked, IsLawful}
use Rattle.bm_arena.specs.HeldMaps.{replicas_at, replicas_of, blocks_of, info_at}
use Rattle.bm_report.specs.AbortedReport.{is_unused_number}
use Rattle.bm_report.proofs.Maps.{get-here}
use Rattle.bm_levels.specs.UnusedEntries.{IsUnused, MakesNoUnused, MakesUnusedOnly, KeepsSlots}
use Rattle.bm_levels.proofs.RevisedHoldings.{known_at}

-- an unused entry was unused before if no block and no replica of the number was lost
pub unused_before : (a c : Contents) (b : ℕ) → IsSome (slot_of a b) → (get (blocks_of c) b ≡ None → get (blocks_of a) b ≡ None)
    → ((s : ℕ) → get (replicas_of c) (replica_at b s) ≡ None → get (replicas_of a) (replica_at b s) ≡ None) → IsUnused c b → IsUnused a b
unused_before a c b led unknown empty unused = record { entry = led; unknown = unknown unused.unknown; empty = λ s. empty s (unused.empty s) }

-- an unused entry was unused before if the number had one and the arena held the same
pub unused_held : (a c : Contents) (b : ℕ) → IsSome (slot_of a b) → blocks_of c ≡ blocks_of a → replicas_of c ≡ replicas_of a → IsUnused c b → IsUnused a b
unused_held a c b led blocks replicas = unused_before a c b led (λ e. sym (ap (λ m. get m b) blocks) ∙ e) (λ s e. sym (ap (λ m. get m (replica_at b s)) replicas) ∙ e)

-- all numbers keep their entries
pub same_numbers : (a c : Contents) → c.ids ≡ a.ids → (b : ℕ) → slot_of c b ≡ slot_of a b
same_numbers a c ids b = ap (λ l. lookup (nat_eq b) l) ids

pub some_before : {o p : Option ℕ} → p ≡ o → IsSome p → IsSome o
some_before e there = let P : Option ℕ → Type 0 = λ o. IsSome o in subst P e there

-- an unused entry has nothing at its slot
module _ (a : Contents) (b slot : ℕ) (led : slot_of a b ≡ Some slot) (unused : IsUnused a b) where
  pub unused_info : info_at a slot ≡ None
  unused_info = sym (known_at a b slot led) ∙ unused.unknown

  listed_marks : (o : Option Block) (s : ℕ) → find_marks (option_map_or (λ (k : Block). k.replicas) o []) s ≡ option_and_then (λ (k : Block). find_marks k.replicas s) o
  listed_marks None s = refl
  listed_marks (Some k) s = refl

  pub unused_replicas : replicas_at a slot ≡ []
  unused_replicas = by (replicas_at a slot) refl
    where
      by : (rs : List (ℕ × Marks)) → replicas_at a slot ≡ rs → rs ≡ []
      by [] e = refl
      by (r ∷ rs) e =
          absurd (none-some _ (sym (unused.empty r.0) ∙ get-here a b slot r.0 led ∙ sym (listed_marks (block_at a slot) r.0) ∙ ap (λ l. find_marks l r.0) e
          ∙ ap (λ t. cond t (Some r.1) (find_marks rs r.0)) (eq-eqb r.0 r.0 refl)))

  pub unused_counted : IsLawful a → is_unused_number a b ≡ true
  unused_counted lawful =
      let k = lawful.found b slot led in
      let info : k.1.info ≡ None = sym (ap (λ o. option_and_then (λ (x : Block). x.info) o) k.2) ∙ unused_info in
      let none : k.1.replicas ≡ [] = sym (ap (λ o. option_map_or (λ (x : Block). x.replicas) o []) k.2) ∙ unused_replicas in
      ap (λ o. option_map_or (λ x. option_map_or (λ (y : Block). not (is_some y.info) && (length y.replicas == 0)) (block_at a x) false) o false) led
      ∙ ap (λ o. option_map_or (λ (y : Block). not (is_some y.info) && (length y.replicas == 0)) o false) k.2 ∙ (λ i. not (is_some (info i)) && (length (none i) == 0))

-- The entry at a slot is dropped if it is unused.
module _ (a c : Contents) (slot : ℕ) (blocks : blocks_of c ≡ blocks_of a) (replicas : replicas_of c ≡ replicas_of a)
    (numbers : (id : ℕ) → slot_of a id ≢ Some slot → slot_of c id ≡ slot_of a id)
    (gone : (id : ℕ) → slot_of a id ≡ Some slot → replicas_at a slot ≡ [] → info_at a slot ≡ None → slot_of c id ≡ None) where
  was_there : (b : ℕ) → IsSome (slot_of c b) → IsSome (slot_of a b)
  was_there b some = by (slot_of a b) refl
    where
      by : (o : Option ℕ) → slot_of a b ≡ o → IsSome o
      by (Some x) e = refl
      by None e = absurd (let P : Option ℕ → Type 0 = λ o. IsSome o in false≢true (subst P (numbers b (λ f. none-some _ (sym e ∙ f)) ∙ e) some))

  pub unused_dropped : MakesNoUnused a c
  unused_dropped b unused = unused_held a c b (was_there b unused.entry) blocks replicas unused

  pub unused_gone : (b : ℕ) → slot_of a b ≡ Some slot → IsUnused c b → ⊥
  unused_gone b led unused =
      let was = unused_dropped b unused in
      let P : Option ℕ → Type 0 = λ o. IsSome o in
      false≢true (subst P (gone b led (unused_replicas a b slot led was) (unused_info a b slot led was)) unused.entry)

-- a number whose block stays as it is
pub unused_elsewhere : (a m : Contents) (b x : ℕ) → slot_of a b ≡ Some x → slot_of m b ≡ Some x → block_at m x ≡ block_at a x → IsUnused m b → IsUnused a b
unused_elsewhere a m b x here led still =
    unused_before a m b (ap is_some here)
    (λ e. known_at a b x here ∙ sym (ap (λ o. option_and_then (λ (k : Block). k.info) o) still) ∙ sym (known_at m b x led) ∙ e)
    (λ s e. get-here a b x s here ∙ sym (ap (λ o. option_and_then (λ (k : Block). find_marks k.replicas s) o) still) ∙ sym (get-here m b x s led) ∙ e)

-- Only the block at a slot changes before the entry there is dropped.
pub unused_changed : (a m c : Contents) (slot : ℕ) → m.ids ≡ a.ids → ((other : ℕ) → other ≢ slot → block_at m other ≡ block_at a other) → blocks_of c ≡ blocks_of m → replicas_of c ≡ replicas_of m
    → ((id : ℕ) → slot_of m id ≢ Some slot → slot_of c id ≡ slot_of m id)
    → ((id : ℕ) → slot_of m id ≡ Some slot → replicas_at m slot ≡ [] → info_at m slot ≡ None → slot_of c id ≡ None) → MakesNoUnused a c
unused_changed a m c slot ids others blocks replicas numbers gone b unused =
    let was = unused_dropped m c slot blocks replicas numbers gone b unused in
    let led = there (slot_of m b) was.entry in
    let here : slot_of a b ≡ Some led.0 = sym (same_numbers a m ids b) ∙ led.1 in
    let apart : led.0 ≢ slot = λ e. unused_gone m c slot blocks replicas numbers gone b (led.1 ∙ ap (λ x. Some x) e) unused in
    unused_elsewhere a m b led.0 here led.1 (others led.0 apart) was

-- A report is aborted: its numbers lose their unused entries.
module _ (a c : Contents) (named : ℕ → Bool) (lawful : IsLawful a) (blocks : blocks_of c ≡ blocks_of a) (replicas : replicas_of c ≡ replicas_of a)
    (numbers : (b : ℕ) → slot_of c b ≡ (if named b && is_unused_number a b then None else slot_of a b)) where
  pub unused_aborted : MakesNoUnused a c
  unused_aborted b unused = unused_held a c b (by (named b && is_unused_number a b) (some_before (numbers b) unused.entry)) blocks replicas unused
    where
      by : (t : Bool) → IsSome (if t then None else slot_of a b) → IsSome (slot_of a b)
      by true some = absurd (false≢true some)
      by false some = some

  pub unused_unnamed : (b : ℕ) → IsTrue (named b) → IsUnused c b → ⊥
  unused_unnamed b name unused =
      let was = unused_aborted b unused in
      let led = there (slot_of a b) was.entry in
      let dropped : slot_of c b ≡ None = numbers b ∙ (λ i. if name i && unused_counted a b led.0 led.1 was lawful i then None else slot_of a b) in
      let P : Option ℕ → Type 0 = λ o. IsSome o in
      false≢true (subst P dropped unused.entry)

-- an abort drops the entries that a look-up made
pub unused_again : (a m c : Contents) (named : ℕ → Bool) → IsLawful m → blocks_of m ≡ blocks_of a → replicas_of m ≡ replicas_of a → ((b : ℕ) → slot_of a b ≡ None → IsSome (slot_of m b) → IsTrue (named b))
    → blocks_of c ≡ blocks_of m → replicas_of c ≡ replicas_of m → ((b : ℕ) → slot_of c b ≡ (if named b && is_unused_number m b then None else slot_of m b)) → MakesNoUnused a c
unused_again a m c named lawful blocks replicas fresh blocks_c replicas_c numbers b unused =
    let was = unused_aborted m c named lawful blocks_c replicas_c numbers b unused in
    unused_held a m b (by (slot_of a b) refl was.entry) blocks replicas was
  where
    by : (o : Option ℕ) → slot_of a b ≡ o → IsSome (slot_of m b) → IsSome (slot_of a b)
    by (Some x) e some = ap is_some e
    by None e some = absurd (unused_unnamed m c named lawful blocks_c replicas_c numbers b (fresh b e some) unused)

-- if other numbers keep their entries, only these can have new unused ones
pub unused_apart : (a c : Contents) (these : ℕ → Bool) → blocks_of c ≡ blocks_of a → replicas_of c ≡ replicas_of a → ((b : ℕ) → these b ≡ false → slot_of c b ≡ slot_of a b) → MakesUnusedOnly these a c
unused_apart a c these blocks replicas others b not_these unused = unused_held a c b (some_before (others b not_these) unused.entry) blocks replicas unused

-- If one entry is dropped, a number that keeps an entry keeps the same one.
pub slots_kept : (a c : Contents) (slot : ℕ) → ((id : ℕ) → slot_of a id ≢ Some slot → slot_of c id ≡ slot_of a id) → ((id : ℕ) → slot_of a id ≡ Some slot → slot_of c id ≡ None) → KeepsSlots a c
slots_kept a c slot numbers gone b some = by (slot_of a b) refl
  where
    by : (o : Option ℕ) → slot_of a b ≡ o → slot_of c b ≡ slot_of a b
    by None e = numbers b (λ f. none-some _ (sym e ∙ f))
    by (Some x) e =
        elim (cases_eq x slot) [
          | inl same ↦ absurd (let P : Option ℕ → Type 0 = λ o. IsSome o in false≢true (subst P (gone b (e ∙ ap (λ y. Some y) same)) some))
          | inr differs ↦ numbers b (λ f. differs (same_Some x slot (sym e ∙ f)))
        ]

-- Heads.

set_some : (s : ℕ) (xs : List ℕ) (q : ℕ) (es : List (ℕ × List ℕ)) → IsSome (lookup (nat_eq q) (set_value (nat_eq s) es xs)) → IsSome (lookup (nat_eq q) es)
set_some s xs q [] some = some
set_some s xs q (e ∷ es) some =
    elim (cases_Bool (eqb s e.0)) [
      | inl here ↦ elim (cases_Bool (eqb q e.0)) [ inl found ↦ rw found refl | inr later ↦ rw later (rw (here, later) at some) ]
      | inr passed ↦ elim (cases_Bool (eqb q e.0)) [ inl found ↦ rw found refl | inr later ↦ rw later (set_some s xs q es (rw (passed, later) at some)) ]
    ]

-- unlinking makes no head
pub heads_unlinked : (a c : Contents) (slot s : ℕ) → c ≡ unlinked a slot s → (q : ℕ) → HasHead c q → HasHead a q
heads_unlinked a c slot s after q head = let P : Contents → Type 0 = λ x. HasHead x q in set_some s (without slot (list_of a s)) q a.lists (subst P after head)

pub heads_same : (a c : Contents) → c.lists ≡ a.lists → (q : ℕ) → HasHead c q → HasHead a q
heads_same a c same q head = let P : List (ℕ × List ℕ) → Type 0 = λ l. IsSome (lookup (nat_eq q) l) in subst P same head
