-- The slots that need copies are those at four levels, and each is listed once.
use Rattle.std.specs.Prelude.{◌≡◌, ℕ, true, List, [], ◌∷◌, ◌++◌, Option, Some, None}
use Rattle.std.proofs.Common.{◌⊎◌, inl, inr, sym, ap, ◌∙◌, refl}
use Rattle.std.proofs.lemmas.Bool.{true≢false}
use Rattle.bm_base.specs.declared.replica.Level.{Level}
use Rattle.bm_base.specs.declared.replica.Level.TheVariants.{Highest, VeryUnderReplicated, UnderReplicated, BadlyDistributed, NoUsableReplica}
use Rattle.bm_maps.specs.SlotLists.{IsMember, Distinct}
use Rattle.bm_arena.proofs.Replicas.{IsMember-append, IsMember-left}
use Rattle.bm_levels.specs.IndexedLevels.{IndexedLevels, level_of_slot, slots_at, slots_needing_copies, needs_copies, AreSlotsAt, NeedCopies}
use Rattle.bm_levels.proofs.StatusUpdates.{among_back}

distinct_both : (xs ys : List ℕ) → Distinct xs → Distinct ys → ((z : ℕ) → IsMember z xs → IsMember z ys → ⊥) → Distinct (xs ++ ys)
distinct_both [] ys d e apart = e
distinct_both (x ∷ xs) ys d e apart =
    (λ h. elim (IsMember-append x xs ys h) [ inl l ↦ d.0 l | inr r ↦ apart x (inl refl) r ], distinct_both xs ys d.1 e (λ z h. apart z (inr h)))

module _ (K : IndexedLevels) (listed : (l : Level) → AreSlotsAt K l (slots_at K l)) where
  abbrev second : List ℕ
  second = slots_at K UnderReplicated ++ slots_at K BadlyDistributed

  abbrev first : List ℕ
  first = slots_at K VeryUnderReplicated ++ second

  in_list : (slot : ℕ) (l : Level) → level_of_slot K slot ≡ Some l → needs_copies (Some l) ≡ true → IsMember slot (slots_needing_copies K)
  in_list slot Highest at wishes = IsMember-left slot (slots_at K Highest) first ((listed Highest slot).1 at)
  in_list slot VeryUnderReplicated at wishes = among_back slot (slots_at K Highest) first (IsMember-left slot (slots_at K VeryUnderReplicated) second ((listed VeryUnderReplicated slot).1 at))
  in_list slot UnderReplicated at wishes =
      among_back slot (slots_at K Highest) first (among_back slot (slots_at K VeryUnderReplicated) second (IsMember-left slot (slots_at K UnderReplicated) (slots_at K BadlyDistributed) ((listed UnderReplicated slot).1 at)))
  in_list slot BadlyDistributed at wishes =
      among_back slot (slots_at K Highest) first (among_back slot (slots_at K VeryUnderReplicated) second (among_back slot (slots_at K UnderReplicated) (slots_at K BadlyDistributed) ((listed BadlyDistributed slot).1 at)))
  in_list slot NoUsableReplica at wishes = absurd (true≢false (sym wishes))

  needing_copies : (slot : ℕ) (o : Option Level) → level_of_slot K slot ≡ o → needs_copies o ≡ true → IsMember slot (slots_needing_copies K)
  needing_copies slot None at wishes = absurd (true≢false (sym wishes))
  needing_copies slot (Some l) at wishes = in_list slot l at wishes

  -- such a slot has one of the four levels
  level_in : (slot : ℕ) → IsMember slot (slots_needing_copies K)
      → (level_of_slot K slot ≡ Some Highest) ⊎ ((level_of_slot K slot ≡ Some VeryUnderReplicated) ⊎ ((level_of_slot K slot ≡ Some UnderReplicated) ⊎ (level_of_slot K slot ≡ Some BadlyDistributed)))
  level_in slot h =
      elim (IsMember-append slot (slots_at K Highest) first h) [
        | inl a ↦ inl ((listed Highest slot).0 a)
        | inr g ↦ elim (IsMember-append slot (slots_at K VeryUnderReplicated) second g) [
          | inl b ↦ inr (inl ((listed VeryUnderReplicated slot).0 b))
          | inr f ↦ elim (IsMember-append slot (slots_at K UnderReplicated) (slots_at K BadlyDistributed) f) [
            | inl d ↦ inr (inr (inl ((listed UnderReplicated slot).0 d)))
            | inr e ↦ inr (inr (inr ((listed BadlyDistributed slot).0 e)))
          ]
        ]
      ]

  pub are_needing_copies : NeedCopies K (slots_needing_copies K)
  are_needing_copies slot = (
    λ h. elim (level_in slot h) [
      | inl a ↦ ap needs_copies a
      | inr g ↦ elim g [ inl b ↦ ap needs_copies b | inr f ↦ elim f [ inl d ↦ ap needs_copies d | inr e ↦ ap needs_copies e ] ]
    ],
    needing_copies slot (level_of_slot K slot) refl,
  )

  -- a slot has one level
  not_both : (l m : Level) (slot : ℕ) → (Some l ≡ Some m → ⊥) → IsMember slot (slots_at K l) → level_of_slot K slot ≡ Some m → ⊥
  not_both l m slot differ there at = differ (sym ((listed l slot).0 there) ∙ at)

  module _ (once : (l : Level) → Distinct (slots_at K l)) where
    pub needing_copies_once : Distinct (slots_needing_copies K)
    needing_copies_once =
        distinct_both (slots_at K Highest) first (once Highest)
        (distinct_both (slots_at K VeryUnderReplicated) second (once VeryUnderReplicated)
        (distinct_both (slots_at K UnderReplicated) (slots_at K BadlyDistributed) (once UnderReplicated) (once BadlyDistributed)
        (λ z h g. not_both UnderReplicated BadlyDistributed z (λ e. cc) h ((listed BadlyDistributed z).0 g)))
        (λ z h g. elim (IsMember-append z (slots_at K UnderReplicated) (slots_at K BadlyDistributed) g) [
          | inl b ↦ not_both VeryUnderReplicated UnderReplicated z (λ e. cc) h ((listed UnderReplicated z).0 b)
          | inr d ↦ not_both VeryUnderReplicated BadlyDistributed z (λ e. cc) h ((listed BadlyDistributed z).0 d)
        ]))
        (λ z h g. elim (IsMember-append z (slots_at K VeryUnderReplicated) second g) [
          | inl a ↦ not_both Highest VeryUnderReplicated z (λ e. cc) h ((listed VeryUnderReplicated z).0 a)
          | inr f ↦ elim (IsMember-append z (slots_at K UnderReplicated) (slots_at K BadlyDistributed) f) [
            | inl b ↦ not_both Highest UnderReplicated z (λ e. cc) h ((listed UnderReplicated z).0 b)
            | inr d ↦ not_both Highest BadlyDistributed z (λ e. cc) h ((listed BadlyDistributed z).0 d)
          ]
        ])
