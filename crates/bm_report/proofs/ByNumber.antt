-- Entering numbers one after another, and then dropping their invalid excess, does both for all.
use Rattle.std.proofs.Common.{◌≡◌, ℕ, ◌≤◌, List, [], ◌∷◌, ◌++◌, length, map, Option, Some, None, refl, subst, inl, inr, sym, ap, ◌∙◌, arith, length-append}
use Rattle.std.proofs.Common.{Bool, true, false, ◌||◌, eqb}
use Rattle.std.specs.Prelude.{nat_eq, ◌==◌, IsTrue, IsSomeAnd}
use Rattle.std.proofs.lemmas.Bool.{eq-eqb}
use Rattle.std.specs.Option.{unwrap_or}
use Rattle.std.specs.Map.{lookup}
use Rattle.std.proofs.lemmas.List.{map-append, length-map}
use Rattle.bm_base.specs.declared.event.Entry.{Entry}
use Rattle.bm_base.specs.declared.ids.Part.{Part}
use Rattle.bm_base.specs.Words.{ReportedBlock, expanded, numbers_in, is_named, Cluster}
use Rattle.bm_base.specs.Shards.{shard_of}
use Rattle.bm_maps.specs.SlotLists.{IsMember}
use Rattle.bm_arena.specs.Contents.{Contents, slot_of, marks_at, HasCapacity}
use Rattle.bm_base.proofs.Entries.{length-expanded}
use Rattle.bm_base.proofs.Slices.{filter_shorter}
use Rattle.bm_report.specs.declared.types.ReportedSlot.{ReportedSlot}
use Rattle.bm_report.specs.declared.report_counts.ReportCounts.{ReportCounts}
use Rattle.bm_report.specs.DuringReport.{AreAtSlots, HaveCapacity, IsEntered, IsCounted, FitsCounters, DropsInvalidExcess, reported_of, slot_in}
use Rattle.bm_report.specs.Ready.{named_in, named_of, HasSlotFor, CanBeAdded}
use Rattle.bm_report.specs.ReportedBlocks.{reported_to_part}
use Rattle.bm_report.proofs.PartialReport.{IsUnderway, underway-first, underway-next, underway-last, here-part, here-rest, capacity-part}
use Rattle.bm_report.proofs.InvalidExcess.{drops-join, drops-same, here-ids}

abbrev named_by_ids : List ReportedBlock → List (ℕ × ℕ) → List ReportedSlot
named_by_ids ts ids = map (λ (t : ReportedBlock). record { id = t.id; slot = unwrap_or (lookup (nat_eq t.id) ids) 0; stamp = t.stamp }) ts

pub named-ids : (a b : Contents) (ts : List ReportedBlock) → b.ids ≡ a.ids → named_of b ts ≡ named_of a ts
named-ids a b ts e = ap (named_by_ids ts) e

split : (a : Contents) (xs ys : List ReportedBlock) → named_of a (xs ++ ys) ≡ named_of a xs ++ named_of a ys
split a xs ys = map-append (named_in a) xs ys

-- numbers that have their entries are looked up
is_at : (P : ℕ → Type 0) (o : Option ℕ) → IsSomeAnd o P → o ≡ Some (unwrap_or o 0)
is_at P None h = absurd h
is_at P (Some x) h = refl

holds_at : (P : ℕ → Type 0) (o : Option ℕ) → IsSomeAnd o P → P (unwrap_or o 0)
holds_at P None h = absurd h
holds_at P (Some x) h = h

pub first_named : (t : ReportedBlock) (ts : List ReportedBlock) → IsTrue (is_named (t ∷ ts) t.id)
unfolding is_named
first_named t ts = ap (λ b. b || is_named ts t.id) (eq-eqb t.id t.id refl)

pub then_named : (t : ReportedBlock) (ts : List ReportedBlock) (b : ℕ) → IsTrue (is_named ts b) → IsTrue (is_named (t ∷ ts) b)
unfolding is_named
then_named t ts b h = by (eqb t.id b) (is_named ts b) h
  where
    by : (x y : Bool) → IsTrue y → IsTrue (x || y)
    by true y h = refl
    by false y h = h

pub here_of : (a : Contents) (s : ℕ) (ts : List ReportedBlock) → ((b : ℕ) → IsTrue (is_named ts b) → HasSlotFor a s b) → AreAtSlots a (named_of a ts)
here_of a s [] places = tt
here_of a s (t ∷ ts) places = (is_at (λ slot. marks_at a slot s ≡ None → HasCapacity a slot) (slot_of a t.id) (places t.id (first_named t ts)), here_of a s ts (λ b h. places b (then_named t ts b h)))

pub capacity_for_named : (a : Contents) (s : ℕ) (ts : List ReportedBlock) → ((b : ℕ) → IsTrue (is_named ts b) → HasSlotFor a s b) → HaveCapacity a s (named_of a ts)
capacity_for_named a s [] places = tt
capacity_for_named a s (t ∷ ts) places =
    (holds_at (λ slot. marks_at a slot s ≡ None → HasCapacity a slot) (slot_of a t.id) (places t.id (first_named t ts)), capacity_for_named a s ts (λ b h. places b (then_named t ts b h)))

pub reported_back : (a : Contents) (ts : List ReportedBlock) → map reported_of (named_of a ts) ≡ ts
reported_back a [] = refl
reported_back a (t ∷ ts) = ap (λ l. t ∷ l) (reported_back a ts)

-- entered blocks, with the slots of an arena that has the same numbers
pub entered_as : (C : Cluster) (s : ℕ) (ts : List ReportedBlock) (a b c : Contents) → b.ids ≡ a.ids → IsEntered C s (named_of b ts) b c → IsEntered C s (named_of a ts) b c
entered_as C s ts a b c e f = let P : List ReportedSlot → Type 0 = λ l. IsEntered C s l b c in subst P (named-ids a b ts e) f

pub counted_as : (C : Cluster) (s : ℕ) (ts : List ReportedBlock) (a b c : Contents) (t u : ReportCounts) → b.ids ≡ a.ids → IsCounted C s (named_of b ts) b c t u → IsCounted C s (named_of a ts) b c t u
counted_as C s ts a b c t u e f = let P : List ReportedSlot → Type 0 = λ l. IsCounted C s l b c t u in subst P (named-ids a b ts e) f

pub drops_as : (s : ℕ) (ts : List ReportedBlock) (a b c : Contents) → b.ids ≡ a.ids → DropsInvalidExcess s (named_of b ts) b c → DropsInvalidExcess s (named_of a ts) b c
drops_as s ts a b c e f = let P : List ReportedSlot → Type 0 = λ l. DropsInvalidExcess s l b c in subst P (named-ids a b ts e) f

pub few_reported : (p : Part) (es : List Entry) (n : ℕ) → numbers_in es ≤ n → length (reported_to_part p es) ≤ n
few_reported p es n few = let h = filter_shorter (λ (t : ReportedBlock). shard_of t.id p.shards == p.index) (expanded es) in let e = length-expanded es in omega (arith, few, h, e)

-- `rest` are the numbers of `all` that are still to be entered
module _ (C : Cluster) (s : ℕ) (all : List ReportedBlock) (first : Contents) (t : ReportCounts) where
  abbrev pub IsLeft : List ReportedBlock → Contents → ReportCounts → Type 0
  IsLeft rest now u = (now.ids ≡ first.ids) × IsUnderway C s (named_of first all) (named_of first rest) first now t u

  pub left-first : CanBeAdded C s all first t → IsLeft all first t
  left-first can =
      let P : ℕ → Type 0 = λ n. FitsCounters t n in
      (refl, underway-first C s (named_of first all) first t can.here can.capacity can.once can.head (subst P (sym (length-map all (named_in first))) can.small))

  pub left-can : (xs ys : List ReportedBlock) (now : Contents) (u : ReportCounts) → IsLeft (xs ++ ys) now u → CanBeAdded C s xs now u
  left-can xs ys now u f =
      let H : List ReportedSlot → Type 0 = λ l. AreAtSlots now l in
      let R : List ReportedSlot → Type 0 = λ l. HaveCapacity now s l in
      let same : named_of now xs ≡ named_of first xs = named-ids first now xs f.0 in
      let n = length-map (xs ++ ys) (named_in first) in
      let m = length-append xs ys in
      record {
        here = subst H (sym same) (here-part now (named_of first xs) (named_of first ys) (subst H (split first xs ys) f.1.here));
        capacity = subst R (sym same) (capacity-part now s (named_of first xs) (named_of first ys) (subst R (split first xs ys) f.1.capacity));
        head = f.1.head;
        once = f.1.once;
        small = record {
          added = omega (arith, f.1.small.added, n, m);
          removed = omega (arith, f.1.small.removed, n, m);
          steps = omega (arith, f.1.small.steps, n, m);
        };
      }

  pub left-next : (xs ys : List ReportedBlock) (now next : Contents) (u v : ReportCounts) → IsLeft (xs ++ ys) now u → IsEntered C s (named_of now xs) now next → IsCounted C s (named_of now xs) now next u v → IsLeft ys next v
  left-next xs ys now next u v f e k =
      let U : List ReportedSlot → Type 0 = λ l. IsUnderway C s (named_of first all) l first now t u in
      let E : List ReportedSlot → Type 0 = λ l. IsEntered C s l now next in
      let K : List ReportedSlot → Type 0 = λ l. IsCounted C s l now next u v in
      let same : named_of now xs ≡ named_of first xs = named-ids first now xs f.0 in
      (e.frame.ids ∙ f.0, underway-next C s (named_of first all) (named_of first xs) (named_of first ys) first now next t u v (subst U (split first xs ys) f.1) (subst E same e) (subst K same k))

  pub left-last : (now : Contents) (u : ReportCounts) → IsLeft [] now u → IsEntered C s (named_of first all) first now × IsCounted C s (named_of first all) first now t u
  left-last now u f = underway-last C s (named_of first all) [] first now t u refl f.1

-- `rest` are the numbers of `all` whose invalid excess is still to be dropped
module _ (s : ℕ) (all : List ReportedBlock) (first : Contents) where
  abbrev pub HasExcessToDrop : List ReportedBlock → Contents → Type 0
  HasExcessToDrop rest now =
      (now.ids ≡ first.ids) × AreAtSlots now (named_of first rest) × ((last : Contents) → DropsInvalidExcess s (named_of first rest) now last → DropsInvalidExcess s (named_of first all) first last)

  pub to_drop-first : AreAtSlots first (named_of first all) → HasExcessToDrop all first
  to_drop-first here = (refl, here, λ last g. g)

  pub to_drop-here : (xs ys : List ReportedBlock) (now : Contents) → HasExcessToDrop (xs ++ ys) now → AreAtSlots now (named_of now xs)
  to_drop-here xs ys now f =
      let H : List ReportedSlot → Type 0 = λ l. AreAtSlots now l in
      subst H (sym (named-ids first now xs f.0)) (here-part now (named_of first xs) (named_of first ys) (subst H (split first xs ys) f.1))

  pub to_drop-next : (xs ys : List ReportedBlock) (now next : Contents) → HasExcessToDrop (xs ++ ys) now → DropsInvalidExcess s (named_of now xs) now next → HasExcessToDrop ys next
  to_drop-next xs ys now next f g =
      let H : List ReportedSlot → Type 0 = λ l. AreAtSlots now l in
      let S : List ReportedSlot → Type 0 = λ l. DropsInvalidExcess s l now next in
      let same : named_of now xs ≡ named_of first xs = named-ids first now xs f.0 in
      let there = here-rest now (named_of first xs) (named_of first ys) (subst H (split first xs ys) f.1) in (
        g.ids ∙ f.0,
        here-ids now next (named_of first ys) g.ids there,
        λ last h.
            let T : List ReportedSlot → Type 0 = λ l. DropsInvalidExcess s l now last in
            f.2 last (subst T (sym (split first xs ys)) (drops-join s (named_of first xs) (named_of first ys) now next last (subst S same g) h)),
      )

  pub to_drop-last : (now : Contents) → HasExcessToDrop [] now → DropsInvalidExcess s (named_of first all) first now
  to_drop-last now f = f.2 now (drops-same s [] now refl)

-- the slot of a reported number
pub reported_slot : (a : Contents) (s : ℕ) (ts : List ReportedBlock) → ((b : ℕ) → IsTrue (is_named ts b) → HasSlotFor a s b) → (slot : ℕ) → IsMember slot (map slot_in (named_of a ts)) → (b : ℕ) × IsTrue (is_named ts b) × (slot_of a b ≡ Some slot)
reported_slot a s ts places slot m = in_list ts (here_of a s ts places) slot m
  where
    in_list : (us : List ReportedBlock) → AreAtSlots a (named_of a us) → (slot : ℕ) → IsMember slot (map slot_in (named_of a us)) → (b : ℕ) × IsTrue (is_named us b) × (slot_of a b ≡ Some slot)
    in_list [] h slot m = absurd m
    in_list (t ∷ us) h slot (inl same) = (t.id, first_named t us, h.0 ∙ ap Some (sym same))
    in_list (t ∷ us) h slot (inr m) = let rest = in_list us h.1 slot m in (rest.0, then_named t us rest.0 rest.1, rest.2)
