-- The phases of a report, one after another, give the replicas and the counts of the definition.
use Rattle.std.proofs.Common.{◌≡◌, ◌≢◌, ℕ, ◌<◌, ◌≤◌, Bool, true, false, cond, List, [], ◌∷◌, length, map, Option, Some, None, is_some, IsSome, refl, subst, inl, inr, sym, ap, ◌∙◌, arith, eqb, eq-eqb, eqb-true, ne_eqb}
use Rattle.std.specs.Prelude.{◌==◌, nat_eq, IsSomeAnd, ◌⊎◌}
use Rattle.std.specs.List.{list_any}
use Rattle.std.specs.Option.{option_and_then, option_or}
use Rattle.std.specs.Map.{lookup}
use Rattle.std.proofs.lemmas.Bool.{cases_Bool, cases_eq, eqb-false, false≢true}
use Rattle.std.proofs.lemmas.Option.{same_Some}
use Rattle.bm_base.specs.declared.replica.ReplicaId.{ReplicaId}
use Rattle.bm_base.specs.declared.replica.Marks.{Marks}
use Rattle.bm_base.specs.declared.replica.Stamp.{Stamp}
use Rattle.bm_base.specs.Words.{get, remove, len, new_replicas, Cluster, replica_at, report}
use Rattle.bm_base.proofs.MapLaws.{same_map, get-remove}
use Rattle.bm_arena.specs.Triplets.{Block}
use Rattle.bm_maps.specs.SlotLists.{IsMember, Distinct, without}
use Rattle.bm_arena.specs.Contents.{Contents, block_at, slot_of, marks_at, list_of, find_marks, IsLawful, KeepsOthers, KeepsEntries, IsEntry}
use Rattle.bm_maps.proofs.SlotLists.{IsMember-without, IsMember-without_other, without-gone, Distinct-without}
use Rattle.bm_report.specs.declared.types.ReportedSlot.{ReportedSlot}
use Rattle.bm_report.specs.declared.report_counts.ReportCounts.{ReportCounts}
use Rattle.bm_arena.specs.HeldMaps.{replicas_of, blocks_of, holdings_of, id_at}
use Rattle.bm_report.specs.DuringReport.{after, behind, without_all, slot_in, entered_all, fresh, out_all, invalid_excess_out_all, reported_of, AreAtSlots, HaveCapacity, IsOncePerNode, IsExcessGood, IsEntered, IsCounted, IsSwept, DropsInvalidExcess, IsListed}
use Rattle.bm_arena.proofs.HeldReplicas.{get-replicas_of, blocks-kept, one_number}
use Rattle.bm_arena.proofs.StableEntries.{entries-chain, entries-others}
use Rattle.bm_report.proofs.AfterDelimiter.{IsMember-after}
use Rattle.bm_report.proofs.Frames.{some_there}
use Rattle.bm_report.proofs.Maps.{Held, tie, get-here, some_is}
use Rattle.bm_report.proofs.SweptSlots.{delimiter_before, number-leads}
use Rattle.bm_report.proofs.PartialReport.{listed-chain}
use Rattle.bm_report.proofs.InvalidExcess.{here-ids}
use Rattle.bm_report.proofs.ReportResult.{last_stamp, reported}
use Rattle.bm_report.proofs.ReplicaCounts.{came, came_and_went, len-invalid_excess_out}

-- changing the delimiter's block does not change replicas
pub replicas-kept : (a c : Contents) → IsLawful a → c.ids ≡ a.ids → ((other : ℕ) → other ≢ a.delimiter → block_at c other ≡ block_at a other) → replicas_of c ≡ replicas_of a
replicas-kept a c lawful ids blocks =
    same_map (replicas_of c) (replicas_of a) (λ q.
    get-replicas_of c q ∙ ap (λ l. option_and_then (λ k. marks_at c k q.storage) (lookup (nat_eq q.block) l)) ids ∙ by q (slot_of a q.block) refl ∙ sym (get-replicas_of a q))
  where
    by : (q : ReplicaId) (o : Option ℕ) → slot_of a q.block ≡ o → option_and_then (λ k. marks_at c k q.storage) o ≡ option_and_then (λ k. marks_at a k q.storage) o
    by q None e = refl
    by q (Some k) e = ap (λ o. option_and_then (λ (b : Block). find_marks b.replicas q.storage) o) (blocks k (lawful.found q.block k e).0)

-- The slots that stay after the delimiter.

pub length-without_all : (ns : List ReportedSlot) (l : List ℕ) → length (without_all ns l) ≤ length l
length-without_all [] l = omega arith
length-without_all (n ∷ ns) l = let rest = length-without_all ns (without n.slot l) in let one = shorter n.slot l in omega (arith, rest, one)
  where
    shorter : (x : ℕ) (l : List ℕ) → length (without x l) ≤ length l
    shorter x [] = omega arith
    shorter x (y ∷ l) = elim (cases_Bool (eqb y x)) [ inl here ↦ rw here (omega arith) | inr other ↦ rw other (let e = shorter x l in omega (arith, e)) ]

sub-without_all : (ns : List ReportedSlot) (x : ℕ) (l : List ℕ) → IsMember x (without_all ns l) → IsMember x l
sub-without_all [] x l m = m
sub-without_all (n ∷ ns) x l m = IsMember-without n.slot x l (sub-without_all ns x (without n.slot l) m)

-- the slot of a named block does not stay
gone-named : (a : Contents) (ns : List ReportedSlot) (b : ℕ) → AreAtSlots a ns → is_some (last_stamp ns b) ≡ true → (x : ℕ) → slot_of a b ≡ Some x → (l : List ℕ) → Distinct l → IsMember x (without_all ns l) → ⊥
gone-named a [] b here named x at l d m = absurd (false≢true named)
gone-named a (n ∷ ns) b here named x at l d m =
    elim (cases_Bool (eqb n.id b)) [
      | inl this ↦
          let same : n.slot ≡ x = same_Some n.slot x (sym here.0 ∙ ap (slot_of a) (eqb-true n.id b this) ∙ at) in
          let P : ℕ → Type 0 = λ k. IsMember x (without k l) in
          without-gone x l d (subst P same (sub-without_all ns x (without n.slot l) m))
      | inr other ↦ gone-named a ns b here.1 (rest (last_stamp ns b) (sym (ap (λ t. is_some (option_or (last_stamp ns b) (cond t (Some n.stamp) None))) other) ∙ named)) x at (without n.slot l) (Distinct-without n.slot l d) m
    ]
  where
    rest : (o : Option Stamp) → is_some (option_or o None) ≡ true → is_some o ≡ true
    rest None e = e
    rest (Some y) e = e

-- the slot of any other block stays
kept-other : (a : Contents) → IsLawful a → (ns : List ReportedSlot) (b : ℕ) → AreAtSlots a ns → is_some (last_stamp ns b) ≡ false → (x : ℕ) → slot_of a b ≡ Some x → (l : List ℕ) → IsMember x l → IsMember x (without_all ns l)
kept-other a lawful [] b here named x at l m = m
kept-other a lawful (n ∷ ns) b here named x at l m =
    elim (cases_Bool (eqb n.id b)) [
      | inl this ↦ absurd (false≢true (sym (sym (ap (λ t. is_some (option_or (last_stamp ns b) (cond t (Some n.stamp) None))) this) ∙ named) ∙ some (last_stamp ns b)))
      | inr other ↦
          let apart : x ≢ n.slot = λ same. (eqb-false n.id b other) (one_number a lawful n.id b n.slot here.0 (at ∙ ap (λ k. Some k) same)) in
          kept-other a lawful ns b here.1 (rest (last_stamp ns b) (sym (ap (λ t. is_some (option_or (last_stamp ns b) (cond t (Some n.stamp) None))) other) ∙ named)) x at (without n.slot l)
          (IsMember-without_other n.slot x l m apart)
    ]
  where
    some : (o : Option Stamp) → is_some (option_or o (Some n.stamp)) ≡ true
    some None = refl
    some (Some y) = refl

    rest : (o : Option Stamp) → is_some (option_or o None) ≡ false → is_some o ≡ false
    rest None e = e
    rest (Some y) e = e

-- The numbers of slots.
any-out : (f : ℕ → ℕ) (b : ℕ) (xs : List ℕ) → ((x : ℕ) → IsMember x xs → f x ≢ b) → list_any (λ k. k == b) (map f xs) ≡ false
any-out f b [] h = refl
any-out f b (x ∷ xs) h = rw (ne_eqb (f x) b (h x (inl refl))) (any-out f b xs (λ y m. h y (inr m)))

any-in : (f : ℕ → ℕ) (b x : ℕ) (xs : List ℕ) → IsMember x xs → f x ≡ b → list_any (λ k. k == b) (map f xs) ≡ true
any-in f b x [] m e = absurd m
any-in f b x (y ∷ xs) (inl same) e = rw (eq-eqb (f y) b (ap f (sym same) ∙ e)) refl
any-in f b x (y ∷ xs) (inr m) e = elim (cases_Bool (eqb (f y) b)) [ inl here ↦ rw here refl | inr other ↦ rw other (any-in f b x xs m e) ]

excess-out : (s : ℕ) (bs : List ℕ) (K : Held) → IsExcessGood K → IsExcessGood (out_all s bs K)
excess-out s [] K good = good
excess-out s (b ∷ bs) K good = excess-out s bs (remove K (replica_at b s)) (λ p m e. good p m (was (tie p (replica_at b s)) (get K p) m (sym (get-remove K (replica_at b s) p) ∙ e)))
  where
    was : (t : Bool) (z : Option Marks) (m : Marks) → cond t None z ≡ Some m → z ≡ Some m
    was true z m e = cc
    was false z m e = e

module _ (C : Cluster) (s : ℕ) (ns : List ReportedSlot) (a0 a1 : Contents) (lawful0 : IsLawful a0) (here : AreAtSlots a0 ns) (capacity : HaveCapacity a0 s ns)
    (list1 : list_of a1 s ≡ a0.delimiter ∷ list_of a0 s) (others1 : KeepsOthers a0 a1 a0.delimiter s) where
  pub replicas1 : replicas_of a1 ≡ replicas_of a0
  replicas1 = replicas-kept a0 a1 lawful0 others1.ids others1.blocks

  pub blocks1 : blocks_of a1 ≡ blocks_of a0
  blocks1 = blocks-kept a0 a1 a0.delimiter others1.ids others1.blocks others1.known

  pub behind1 : behind a1 s ≡ list_of a0 s
  behind1 = (λ i. after (others1.delimiter i) (list1 i)) ∙ first
    where
      first : after a0.delimiter (a0.delimiter ∷ list_of a0 s) ≡ list_of a0 s
      first = rw (eq-eqb a0.delimiter a0.delimiter refl) refl

  pub here1 : AreAtSlots a1 ns
  here1 = here-ids a0 a1 ns others1.ids here

  capacity_after : (ms : List ReportedSlot) → AreAtSlots a0 ms → HaveCapacity a0 s ms → HaveCapacity a1 s ms
  capacity_after [] h r = tt
  capacity_after (n ∷ ms) h r = (
    λ none.
        let same : block_at a1 n.slot ≡ block_at a0 n.slot = others1.blocks n.slot (lawful0.found n.id n.slot h.0).0 in
        let P : Option Block → Type 0 = λ o. IsSomeAnd o (λ (b : Block). length b.replicas < b.capacity) in
        subst P (sym same) (r.0 (sym (ap (λ o. option_and_then (λ (b : Block). find_marks b.replicas s) o) same) ∙ none)),
    capacity_after ms h.1 r.1,
  )

  pub capacity1 : HaveCapacity a1 s ns
  capacity1 = capacity_after ns here capacity

  pub once1 : IsOncePerNode C (replicas_of a0) → IsOncePerNode C (replicas_of a1)
  once1 once = let P : Held → Type 0 = λ K. IsOncePerNode C K in subst P (sym replicas1) once

  -- there are at most as many slots after the delimiter as the list had
  pub behind-fits : (a2 : Contents) → IsEntered C s ns a1 a2 → length (behind a2 s) ≤ length (list_of a0 s)
  behind-fits a2 entered =
      let is : behind a2 s ≡ without_all ns (list_of a0 s) = entered.behind ∙ ap (without_all ns) behind1 in
      let e = ap length is in
      omega (arith, e, length-without_all ns (list_of a0 s))

  module _ (a2 a3 a4 : Contents) (lawful2 : IsLawful a2) (entered : IsEntered C s ns a1 a2) (t1 t2 t3 : ReportCounts) (swept : IsSwept s (behind a2 s) a2 a3 t2 t3)
      (others4 : KeepsOthers a3 a4 a3.delimiter s) (lawful3 : IsLawful a3) where
    behind2 : behind a2 s ≡ without_all ns (list_of a0 s)
    behind2 = entered.behind ∙ ap (without_all ns) behind1

    ids2 : a2.ids ≡ a0.ids
    ids2 = entered.frame.ids ∙ others1.ids

    bs : List ℕ
    bs = map (id_at a2) (behind a2 s)

    slot2 : (b : ℕ) → slot_of a2 b ≡ slot_of a0 b
    slot2 b = ap (λ l. lookup (nat_eq b) l) ids2

    -- a slot after the delimiter is that of a number
    leads2 : (x : ℕ) → IsMember x (behind a2 s) → slot_of a2 (id_at a2 x) ≡ Some x
    leads2 x m =
        let P : ℕ → Type 0 = λ k. IsMember k (behind a2 s) in
        number-leads a2 lawful2 x s (λ same. delimiter_before a2.delimiter (list_of a2 s) (lawful2.distinct s) (subst P same m))
        ((lawful2.exact x s).0 (IsMember-after a2.delimiter x (list_of a2 s) m))

    named_stay : (b : ℕ) → is_some (last_stamp ns b) ≡ true → list_any (λ k. k == b) bs ≡ false
    unfolding bs
    named_stay b named =
        any-out (id_at a2) b (behind a2 s) (λ x m is.
        let at : slot_of a0 b ≡ Some x = sym (slot2 b) ∙ ap (slot_of a2) (sym is) ∙ leads2 x m in
        let P : List ℕ → Type 0 = λ l. IsMember x l in
        gone-named a0 ns b here named x at (list_of a0 s) (lawful0.distinct s) (subst P behind2 m))

    others_leave : (b : ℕ) → is_some (last_stamp ns b) ≡ false → IsSome (get (replicas_of a0) (replica_at b s)) → list_any (λ k. k == b) bs ≡ true
    unfolding bs
    others_leave b named some = by (slot_of a0 b) refl
      where
        by : (o : Option ℕ) → slot_of a0 b ≡ o → list_any (λ k. k == b) (map (id_at a2) (behind a2 s)) ≡ true
        by None e = absurd (some_there (get (replicas_of a0) (replica_at b s)) some (get-replicas_of a0 (replica_at b s) ∙ ap (λ o. option_and_then (λ k. marks_at a0 k s) o) e))
        by (Some x) e =
            let Q : Option Marks → Type 0 = λ o. IsSome o in
            let was_there : IsMember x (list_of a0 s) = (lawful0.exact x s).1 (subst Q (get-here a0 b x s e) some) in
            let P : List ℕ → Type 0 = λ l. IsMember x l in
            let left : IsMember x (behind a2 s) = subst P (sym behind2) (kept-other a0 lawful0 ns b here named x e (list_of a0 s) was_there) in
            any-in (id_at a2) b x (behind a2 s) left (one_number a2 lawful2 (id_at a2 x) b x (leads2 x left) (slot2 b ∙ e))

    replicas4 : replicas_of a4 ≡ replicas_of a3
    replicas4 = replicas-kept a3 a4 lawful3 others4.ids others4.blocks

    replicas3 : replicas_of a3 ≡ out_all s bs (replicas_of a2)
    unfolding bs
    replicas3 = swept.replicas

    pub here4 : AreAtSlots a4 ns
    here4 = here-ids a0 a4 ns (others4.ids ∙ swept.ids ∙ ids2) here

    pub good4 : IsExcessGood (replicas_of a2) → IsExcessGood (replicas_of a4)
    good4 good = let P : Held → Type 0 = λ K. IsExcessGood K in subst P (sym (replicas4 ∙ replicas3)) (excess-out s bs (replicas_of a2) good)

    pub delimiter3 : a3.delimiter ≡ a0.delimiter
    delimiter3 = swept.delimiter ∙ entered.frame.delimiter ∙ others1.delimiter

    -- the delimiter's block is the same after the sweep as before entering
    marker3 : block_at a3 a0.delimiter ≡ block_at a1 a0.delimiter
    marker3 =
        let d1 : a0.delimiter ≡ a1.delimiter = sym others1.delimiter in
        let d2 : a0.delimiter ≡ a2.delimiter = sym (entered.frame.delimiter ∙ others1.delimiter) in
        ap (block_at a3) d2 ∙ swept.marker ∙ sym (ap (block_at a2) d2) ∙ ap (block_at a2) d1 ∙ entered.frame.marker ∙ sym (ap (block_at a1) d1)

    module _ (a5 : Contents) (drops : DropsInvalidExcess s ns a4 a5) where
      pub replicas5 : replicas_of a5 ≡ (report C (holdings_of a0) s (map reported_of ns)).replicas
      unfolding holdings_of
      replicas5 =
          drops.replicas ∙ ap (invalid_excess_out_all s ns) (replicas4 ∙ replicas3 ∙ ap (out_all s bs) (entered.replicas ∙ (λ i. entered_all C (blocks1 i) s ns (replicas1 i))))
          ∙ reported C (holdings_of a0) s ns bs named_stay others_leave

      pub blocks5 : blocks_of a5 ≡ blocks_of a0
      blocks5 = drops.blocks ∙ blocks-kept a3 a4 a3.delimiter others4.ids others4.blocks others4.known ∙ swept.blocks ∙ entered.frame.blocks ∙ blocks1

      pub entries5 : KeepsEntries a0 a5
      entries5 =
          entries-chain a0 a1 a5 (entries-others a0 a1 a0.delimiter s others1)
          (entries-chain a1 a2 a5 entered.frame.entries
          (entries-chain a2 a3 a5 swept.entries (entries-chain a3 a4 a5 (entries-others a3 a4 a3.delimiter s others4) drops.entries)))

      pub free5 : marks_at a0 a0.delimiter s ≡ None → marks_at a4 a3.delimiter s ≡ None → (t : ℕ) → marks_at a5 a5.delimiter t ≡ marks_at a0 a0.delimiter t
      free5 free taken t =
          let last : block_at a5 a5.delimiter ≡ block_at a4 a3.delimiter = ap (block_at a5) drops.delimiter ∙ drops.marker ∙ ap (block_at a4) others4.delimiter in
          ap (λ o. option_and_then (λ (b : Block). find_marks b.replicas t) o) last
          ∙ elim (cases_eq t s) [
            | inl same ↦ ap (marks_at a4 a3.delimiter) same ∙ taken ∙ sym free ∙ ap (marks_at a0 a0.delimiter) (sym same)
            | inr differs ↦
                others4.marks t differs ∙ ap (λ o. option_and_then (λ (b : Block). find_marks b.replicas t) o) (ap (block_at a3) delimiter3 ∙ marker3) ∙ others1.marks t differs
          ]

      pub changed5 : IsExcessGood (replicas_of a0) → (l0 l2 l3 : List ℕ) → IsListed a1 a2 l0 l2 → IsListed a2 a3 l2 l3 → (slot : ℕ) → slot ≢ a0.delimiter → (IsMember slot l3 → ⊥) → block_at a5 slot ≡ block_at a0 slot
      changed5 good l0 l2 l3 f g slot apart out = by (marks_at a0 slot s) refl
        where
          same4 : block_at a4 slot ≡ block_at a0 slot
          same4 =
              others4.blocks slot (λ e. apart (e ∙ delimiter3)) ∙ g.same slot out ∙ f.same slot (λ m. out (g.more slot m)) ∙ others1.blocks slot apart

          marks4 : marks_at a4 slot s ≡ marks_at a0 slot s
          marks4 = ap (λ o. option_and_then (λ (b : Block). find_marks b.replicas s) o) same4

          by : (o : Option Marks) → marks_at a0 slot s ≡ o → block_at a5 slot ≡ block_at a0 slot
          by None e = drops.absent slot (marks4 ∙ e) ∙ same4
          by (Some m) e =
              let at = number-leads a0 lawful0 slot s apart (some_is (marks_at a0 slot s) m e) in
              drops.others slot m (marks4 ∙ e) (good (replica_at (id_at a0 slot) s) m (get-here a0 (id_at a0 slot) slot s at ∙ e)) ∙ same4

      -- a block that is not on s and not named does not change
      pub others5 : (slot : ℕ) → slot ≢ a0.delimiter → marks_at a0 slot s ≡ None → (IsMember slot (map slot_in ns) → ⊥) → block_at a5 slot ≡ block_at a0 slot
      others5 slot apart absent out =
          let found : Option Block → Option Marks = λ o. option_and_then (λ (b : Block). find_marks b.replicas s) o in
          let still : block_at a2 slot ≡ block_at a0 slot = entered.others slot out ∙ others1.blocks slot apart in
          let not_behind : IsMember slot (behind a2 s) → ⊥ = λ m.
          some_there (marks_at a2 slot s) ((lawful2.exact slot s).0 (IsMember-after a2.delimiter slot (list_of a2 s) m)) (ap found still ∙ absent) in
          let same4 : block_at a4 slot ≡ block_at a0 slot = others4.blocks slot (λ e. apart (e ∙ delimiter3)) ∙ swept.others slot not_behind ∙ still in
          drops.absent slot (ap found same4 ∙ absent) ∙ same4

      pub listed5 : (l0 l2 l3 : List ℕ) → IsListed a1 a2 l0 l2 → IsListed a2 a3 l2 l3 → (slot : ℕ) → IsMember slot l3 → IsMember slot l0 ⊎ IsEntry a0 slot
      listed5 l0 l2 l3 f g slot m = by ((listed-chain a1 a2 a3 l0 l2 l3 f g).only slot m)
        where
          by : IsMember slot l0 ⊎ IsEntry a1 slot → IsMember slot l0 ⊎ IsEntry a0 slot
          by (inl before) = inl before
          by (inr led) = inr (led.0, ap (λ l. lookup (nat_eq led.0) l) (sym others1.ids) ∙ led.1)

      -- the replicas after all phases, by the maps before
      in_the_end : replicas_of a5 ≡ invalid_excess_out_all s ns (out_all s bs (entered_all C (blocks_of a0) s ns (replicas_of a0)))
      in_the_end =
          drops.replicas ∙ ap (invalid_excess_out_all s ns) (replicas4 ∙ replicas3 ∙ ap (out_all s bs) (entered.replicas ∙ (λ i. entered_all C (blocks1 i) s ns (replicas1 i))))

      then_swept : replicas_of a4 ≡ out_all s bs (entered_all C (blocks_of a0) s ns (replicas_of a0))
      then_swept = replicas4 ∙ replicas3 ∙ ap (out_all s bs) (entered.replicas ∙ (λ i. entered_all C (blocks1 i) s ns (replicas1 i)))

      module _ (counted : IsCounted C s ns a1 a2 t1 t2) (none_added : t1.added ≡ 0) (none_removed : t1.removed ≡ 0) where
        fresh0 : fresh C (blocks_of a1) s ns (replicas_of a1) ≡ new_replicas (replicas_of a0) (replicas_of a5)
        fresh0 =
            (λ i. fresh C (blocks1 i) s ns (replicas1 i))
            ∙ sym (ap (new_replicas (replicas_of a0)) in_the_end ∙ came C (blocks_of a0) s (replicas_of a0) ns bs named_stay)

        pub added5 : t3.added ≡ new_replicas (replicas_of a0) (replicas_of a5)
        added5 = let e = fresh0 in let f = swept.added in let g = counted.added in omega (arith, e, f, g, none_added)

        pub removed5 : t3.removed ≡ new_replicas (replicas_of a5) (replicas_of a0)
        removed5 =
            let both = came_and_went (replicas_of a0) (replicas_of a5) in
            let len5 : len (replicas_of a5) ≡ len (replicas_of a4) = ap len in_the_end ∙ len-invalid_excess_out C (blocks_of a0) s (replicas_of a0) ns bs named_stay ∙ sym (ap len then_swept) in
            let len4 = ap len replicas4 in
            let len1 = ap len replicas1 in
            let added = added5 in
            let swept_added = swept.added in
            omega (arith, both, len5, len4, len1, added, swept_added, counted.removed, swept.removed, swept.lengths, none_added, none_removed)
