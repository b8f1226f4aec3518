-- Dropping an unused entry keeps all blocks, replicas and levels, and the other numbers' slots.
use Rattle.std.specs.Prelude.{◌≡◌, ◌≢◌, ◌↔◌, ℕ, IsSome, Bool, true, false, ◌==◌, if◌then◌else◌, [], Option, Some, None, option_and_then, IsSomeAnd}
use Rattle.std.proofs.Common.{refl, sym, ap, subst, ◌∙◌, inl, inr}
use Rattle.std.proofs.lemmas.Option.{same_Some}
use Rattle.std.proofs.lemmas.Bool.{cases_eq, ne_eqb, eq-eqb, true≢false, false≢true}
use Rattle.bm_arena.specs.Triplets.{Block}
use Rattle.bm_arena.specs.Contents.{Contents, block_at, slot_of, find_marks, dropped, IsLawful}
use Rattle.bm_arena.specs.HeldMaps.{replicas_of, blocks_of, info_at}
use Rattle.bm_arena.proofs.HeldReplicas.{same_replicas, same_blocks}
use Rattle.bm_levels.specs.Status.{level_by, is_settled_at}
use Rattle.bm_levels.specs.IndexedLevels.{IsUnsettled}
use Rattle.bm_levels.specs.LeveledBlocks.{Leveled, IsLeveled}
use Rattle.bm_levels.specs.LevelsBy.{AreLevelsBy}
use Rattle.bm_levels.proofs.StatusByCounts.{level_unknown}

module _ (old : Leveled) (c : Contents) (slot : ℕ) (k : Block) (lawful : IsLawful old.arena) (here : block_at old.arena slot ≡ Some k) (apart : slot ≢ old.arena.delimiter)
    (no_replicas : k.replicas ≡ []) (unknown : k.info ≡ None)
    (entries : (other : ℕ) → block_at c other ≡ (if other == slot then None else block_at old.arena other))
    (numbers : (id : ℕ) → slot_of c id ≡ (if k.id == id then None else slot_of old.arena id)) (delimiter : c.delimiter ≡ old.arena.delimiter) where
  abbrev a : Contents
  a = old.arena

  leads : slot_of a k.id ≡ Some slot
  leads = lawful.known slot k here apart

  still : (other : ℕ) → other ≢ slot → block_at c other ≡ block_at a other
  still other ne = entries other ∙ ap (λ b. if b then None else block_at a other) (ne_eqb other slot ne)

  -- a look-up by number finds the same as before
  found_still : {X : Type 0} (f : Option Block → Option X) → f None ≡ None → f (Some k) ≡ None → (id : ℕ)
      → option_and_then (λ x. f (block_at c x)) (slot_of c id) ≡ option_and_then (λ x. f (block_at a x)) (slot_of a id)
  found_still f none empty id =
      elim (cases_eq id k.id) [
        | inl same ↦
            ap (λ o. option_and_then (λ x. f (block_at c x)) o) (numbers id ∙ ap (λ b. if b then None else slot_of a id) (eq-eqb k.id id (sym same)))
            ∙ sym (ap (λ o. option_and_then (λ x. f (block_at a x)) o) (ap (slot_of a) same ∙ leads) ∙ ap f here ∙ empty)
        | inr differs ↦
            ap (λ o. option_and_then (λ x. f (block_at c x)) o) (numbers id ∙ ap (λ b. if b then None else slot_of a id) (ne_eqb k.id id (λ e. differs (sym e)))) ∙ by (slot_of a id) refl
      ]
    where
      by : (o : Option ℕ) → slot_of a id ≡ o → option_and_then (λ x. f (block_at c x)) o ≡ option_and_then (λ x. f (block_at a x)) o
      by None e = refl
      by (Some x) e =
          elim (cases_eq x slot) [
            | inl same ↦
                let P : ℕ → Type 0 = λ z. f (block_at c z) ≡ f (block_at a z) in
                subst P (sym same) (ap f (entries slot ∙ ap (λ b. if b then None else block_at a slot) (eq-eqb slot slot refl)) ∙ none ∙ sym (ap f here ∙ empty))
            | inr differs ↦ ap f (still x differs)
          ]

  pub replicas_still : replicas_of c ≡ replicas_of a
  replicas_still = same_replicas a c (λ q. found_still (λ o. option_and_then (λ (b : Block). find_marks b.replicas q.storage) o) refl (ap (λ rs. find_marks rs q.storage) no_replicas) q.block)

  pub blocks_still : blocks_of c ≡ blocks_of a
  blocks_still = same_blocks a c (λ b. found_still (λ o. option_and_then (λ (x : Block). x.info) o) refl unknown b)

  pub numbers_still : (id : ℕ) → slot_of a id ≢ Some slot → slot_of c id ≡ slot_of a id
  numbers_still id ne = numbers id ∙ ap (λ b. if b then None else slot_of a id) (ne_eqb k.id id (λ e. ne (sym (ap (slot_of a) e) ∙ leads)))

  pub numbers_gone : (id : ℕ) → slot_of a id ≡ Some slot → slot_of c id ≡ None
  numbers_gone id led =
      let f = lawful.found id slot led in
      let same : k ≡ f.1 = same_Some k f.1 (sym here ∙ f.2) in
      numbers id ∙ ap (λ b. if b then None else slot_of a id) (eq-eqb k.id id (ap (λ (b : Block). b.id) same ∙ f.3))

  settled_empty : is_settled_at (Some k) ≡ true
  unfolding is_settled_at
  settled_empty = rw (no_replicas, unknown) refl

  marker : block_at c c.delimiter ≡ block_at a a.delimiter
  marker = ap (block_at c) delimiter ∙ still a.delimiter (λ e. apart (sym e))

  pub leveled_still : IsLeveled old → IsLeveled (record { arena = c; level_index = old.level_index })
  unfolding is_settled_at
  leveled_still h = record {
    free = λ s. ap (λ o. option_and_then (λ (b : Block). find_marks b.replicas s) o) marker ∙ h.free s;
    blank = ap (λ o. option_and_then (λ (b : Block). b.info) o) marker ∙ h.blank;
    capacity = λ z there. elim (cases_eq z slot) [
      | inl same ↦ let P : Option Block → Type 0 = λ o. IsSome o in absurd (false≢true (subst P (entries z ∙ ap (λ b. if b then None else block_at a z) (eq-eqb z slot same)) there))
      | inr differs ↦ let P : Option Block → Type 0 = λ o. IsSome o in h.capacity z (subst P (still z differs) there)
    ];
    unsettled = λ z. elim (cases_eq z slot) [
      | inl same ↦
          let vacant : block_at c z ≡ None = entries z ∙ ap (λ b. if b then None else block_at a z) (eq-eqb z slot same) in
          let was : is_settled_at (block_at a z) ≡ true = ap (λ x. is_settled_at (block_at a x)) same ∙ ap is_settled_at here ∙ settled_empty in
          (λ u. absurd (true≢false (sym was ∙ (h.unsettled z).0 u)), λ s. absurd (true≢false (sym (ap is_settled_at vacant) ∙ s)))
      | inr differs ↦ let P : Option Block → Type 0 = λ o. IsUnsettled old.level_index z ↔ (is_settled_at o ≡ false) in subst P (sym (still z differs)) (h.unsettled z)
    ];
    unknown = λ z e. elim (cases_eq z slot) [
      | inl same ↦ h.unknown z (ap (info_at a) same ∙ ap (λ o. option_and_then (λ (b : Block). b.info) o) here ∙ unknown)
      | inr differs ↦ h.unknown z (sym (ap (λ o. option_and_then (λ (b : Block). b.info) o) (still z differs)) ∙ e)
    ];
  }

  pub levels_still : (rack : ℕ → Option ℕ) (draining : ℕ → Bool) (multi : Bool) → AreLevelsBy rack draining multi old → AreLevelsBy rack draining multi (record { arena = c; level_index = old.level_index })
  unfolding level_by
  levels_still rack draining multi h z = elim (cases_eq z slot) [
    | inl same ↦
        let vacant : block_at c z ≡ None = entries z ∙ ap (λ b. if b then None else block_at a z) (eq-eqb z slot same) in
        let was : block_at a z ≡ Some k = ap (block_at a) same ∙ here in
        h z ∙ ap (level_by rack draining multi) was ∙ sym (level_unknown rack draining multi (Some k) unknown) ∙ sym (ap (level_by rack draining multi) vacant)
    | inr differs ↦ h z ∙ sym (ap (level_by rack draining multi) (still z differs))
  ]

-- what dropping an entry keeps; only its own number loses its slot
pub record IsEmptied (old : Leveled) (c : Contents) (slot : ℕ) : Type 0 where
  pub replicas : replicas_of c ≡ replicas_of old.arena
  pub blocks : blocks_of c ≡ blocks_of old.arena
  pub numbers : (id : ℕ) → slot_of old.arena id ≢ Some slot → slot_of c id ≡ slot_of old.arena id
  pub gone : (id : ℕ) → slot_of old.arena id ≡ Some slot → slot_of c id ≡ None
  pub leveled : IsLeveled old → IsLeveled (record { arena = c; level_index = old.level_index })
  pub levels : (rack : ℕ → Option ℕ) (draining : ℕ → Bool) (multi : Bool) → AreLevelsBy rack draining multi old → AreLevelsBy rack draining multi (record { arena = c; level_index = old.level_index })

pub emptied : (old : Leveled) (c : Contents) (slot id : ℕ) → IsLawful old.arena → slot_of old.arena id ≡ Some slot → IsSomeAnd (block_at old.arena slot) (λ (b : Block). b.replicas ≡ []) → info_at old.arena slot ≡ None
    → ((b : Block) → block_at old.arena slot ≡ Some b → c ≡ dropped old.arena slot b.id)
    → ((other : ℕ) → block_at c other ≡ (if other == slot then None else block_at old.arena other))
    → ((b : Block) → block_at old.arena slot ≡ Some b → (id : ℕ) → slot_of c id ≡ (if b.id == id then None else slot_of old.arena id))
    → IsEmptied old c slot
emptied old c slot id lawful here no_replicas unknown after entries numbers =
    let f = lawful.found id slot here in
    let k = f.1 in
    let e = f.2 in
    let P : Option Block → Type 0 = λ o. IsSomeAnd o (λ (b : Block). b.replicas ≡ []) in
    let none = subst P e no_replicas in
    let info = sym (ap (λ o. option_and_then (λ (b : Block). b.info) o) e) ∙ unknown in
    let is = after k e in
    record {
      replicas = replicas_still old c slot k lawful e f.0 none info entries (numbers k e) (ap (λ (x : Contents). x.delimiter) is);
      blocks = blocks_still old c slot k lawful e f.0 none info entries (numbers k e) (ap (λ (x : Contents). x.delimiter) is);
      numbers = numbers_still old c slot k lawful e f.0 none info entries (numbers k e) (ap (λ (x : Contents). x.delimiter) is);
      gone = numbers_gone old c slot k lawful e f.0 none info entries (numbers k e) (ap (λ (x : Contents). x.delimiter) is);
      leveled = leveled_still old c slot k lawful e f.0 none info entries (numbers k e) (ap (λ (x : Contents). x.delimiter) is);
      levels = levels_still old c slot k lawful e f.0 none info entries (numbers k e) (ap (λ (x : Contents). x.delimiter) is);
    }
