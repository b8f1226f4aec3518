-- Entering the rest of the blocks after those entered so far enters all blocks of a report.
use Rattle.std.proofs.Common.{◌≡◌, ◌≢◌, ℕ, zero, suc, ◌+◌, ◌≤◌, ◌<◌, get_or, List, [], ◌∷◌, ◌++◌, length, drop, Some, refl, subst, inl, inr, sym, ap, ◌∙◌, arith, length-append, eqb}
use Rattle.std.specs.Prelude.{slice_get, nat_eq, ◌⊎◌}
use Rattle.std.specs.Map.{lookup}
use Rattle.std.proofs.lemmas.Bool.{cases_Bool, eqb-true, eqb-false}
use Rattle.std.proofs.lemmas.Option.{none-some, slice_get_read}
use Rattle.bm_base.specs.Machine.State.{Cluster}
use Rattle.bm_maps.specs.SlotLists.{IsMember}
use Rattle.bm_arena.specs.Contents.{Contents, block_at, IsEntry, HasHead}
use Rattle.bm_arena.proofs.Replicas.{IsMember-left, IsMember-last}
use Rattle.bm_report.specs.declared.types.ReportedSlot.{ReportedSlot}
use Rattle.bm_report.specs.declared.report_counts.ReportCounts.{ReportCounts}
use Rattle.bm_arena.specs.HeldMaps.{replicas_of, blocks_of}
use Rattle.bm_report.specs.DuringReport.{AreAtSlots, HaveCapacity, IsOncePerNode, IsEntered, IsCounted, IsListed, FitsCounters}
use Rattle.bm_report.proofs.EnteredChain.{entered-none, counted-none, entered-append, counted-append, here-framed, capacity-framed}
use Rattle.bm_report.proofs.OncePerNode.{once-entered_all}

-- Some of the named blocks are entered, and `rest` are still to be: the conditions for entering
-- these, and the final result.
pub record IsUnderway (C : Cluster) (s : ℕ) (all rest : List ReportedSlot) (first now : Contents) (t u : ReportCounts) : Type 0 where
  pub here : AreAtSlots now rest
  pub capacity : HaveCapacity now s rest
  pub once : IsOncePerNode C (replicas_of now)
  pub head : HasHead now s
  pub small : FitsCounters u (length rest)
  pub entered : (last : Contents) → IsEntered C s rest now last → IsEntered C s all first last
  pub counted : (last : Contents) (v : ReportCounts) → IsCounted C s rest now last u v → IsCounted C s all first last t v

-- Listing.

pub listed-none : (a : Contents) (xs : List ℕ) → IsListed a a xs xs
listed-none a xs = record { same = λ slot out. refl; more = λ slot m. m; only = λ slot m. inl m; ids = refl }

pub listed-chain : (a b c : Contents) (xs ys zs : List ℕ) → IsListed a b xs ys → IsListed b c ys zs → IsListed a c xs zs
listed-chain a b c xs ys zs f g = record {
  same = λ slot out. g.same slot out ∙ f.same slot (λ m. out (g.more slot m));
  more = λ slot m. g.more slot (f.more slot m);
  only = λ slot m. by slot (g.only slot m);
  ids = g.ids ∙ f.ids;
}
  where
    by : (slot : ℕ) → IsMember slot ys ⊎ IsEntry b slot → IsMember slot xs ⊎ IsEntry a slot
    by slot (inl m) = f.only slot m
    by slot (inr led) = inr (led.0, ap (λ l. lookup (nat_eq led.0) l) (sym f.ids) ∙ led.1)

-- one block changes, and its slot is pushed
pub listed-push : (a b : Contents) (slot : ℕ) (xs ys : List ℕ) → ((other : ℕ) → other ≢ slot → block_at b other ≡ block_at a other) → ys ≡ xs ++ slot ∷ [] → IsEntry a slot → b.ids ≡ a.ids → IsListed a b xs ys
listed-push a b slot xs ys others is entry ids =
    let P : List ℕ → Type 0 = λ l. IsListed a b xs l in
    subst P (sym is)
    (record {
      same = λ x out.
          elim (cases_Bool (eqb x slot)) [
            | inl here ↦ absurd (out (let Q : ℕ → Type 0 = λ k. IsMember k (xs ++ slot ∷ []) in subst Q (sym (eqb-true x slot here)) (IsMember-last slot xs)))
            | inr other ↦ others x (eqb-false x slot other)
          ];
      more = λ x m. IsMember-left x xs (slot ∷ []) m;
      only = λ x m. last x xs m;
      ids = ids;
    })
  where
    last : (x : ℕ) (l : List ℕ) → IsMember x (l ++ slot ∷ []) → IsMember x l ⊎ IsEntry a x
    last x [] (inl same) = let P : ℕ → Type 0 = λ k. IsEntry a k in inr (subst P (sym same) entry)
    last x [] (inr m) = absurd m
    last x (y ∷ l) (inl same) = inl (inl same)
    last x (y ∷ l) (inr m) = in_rest (last x l m)
      where
        in_rest : IsMember x l ⊎ IsEntry a x → IsMember x (y ∷ l) ⊎ IsEntry a x
        in_rest (inl there) = inl (inr there)
        in_rest (inr led) = inr led

-- Counting.

pub small-next : (C : Cluster) (s k : ℕ) (xs : List ReportedSlot) (a b : Contents) (t u : ReportCounts) → IsCounted C s xs a b t u → FitsCounters t (length xs + k) → FitsCounters u k
small-next C s k xs a b t u f h = record {
  added = omega (arith, f.few_added, h.added);
  removed = omega (arith, f.few_removed, h.removed);
  steps = omega (arith, f.few_removed, f.steps, h.steps);
}

-- First, next and last step.

pub underway-first : (C : Cluster) (s : ℕ) (all : List ReportedSlot) (a : Contents) (t : ReportCounts) → AreAtSlots a all → HaveCapacity a s all → IsOncePerNode C (replicas_of a) → HasHead a s → FitsCounters t (length all)
    → IsUnderway C s all all a a t t
underway-first C s all a t here capacity once head small = record {
  here = here;
  capacity = capacity;
  once = once;
  head = head;
  small = small;
  entered = λ last f. f;
  counted = λ last v f. f;
}

pub here-rest : (a : Contents) (xs ys : List ReportedSlot) → AreAtSlots a (xs ++ ys) → AreAtSlots a ys
here-rest a [] ys h = h
here-rest a (x ∷ xs) ys h = here-rest a xs ys h.1

capacity-rest : (a : Contents) (s : ℕ) (xs ys : List ReportedSlot) → HaveCapacity a s (xs ++ ys) → HaveCapacity a s ys
capacity-rest a s [] ys h = h
capacity-rest a s (x ∷ xs) ys h = capacity-rest a s xs ys h.1

pub here-part : (a : Contents) (xs ys : List ReportedSlot) → AreAtSlots a (xs ++ ys) → AreAtSlots a xs
here-part a [] ys h = tt
here-part a (x ∷ xs) ys h = (h.0, here-part a xs ys h.1)

pub capacity-part : (a : Contents) (s : ℕ) (xs ys : List ReportedSlot) → HaveCapacity a s (xs ++ ys) → HaveCapacity a s xs
capacity-part a s [] ys h = tt
capacity-part a s (x ∷ xs) ys h = (h.0, capacity-part a s xs ys h.1)

pub drop_next : {X : Type 0} (xs : List X) (i : ℕ) (x : X) → slice_get xs i ≡ Some x → drop i xs ≡ x ∷ drop (suc i) xs
drop_next [] i x e = absurd (none-some x e)
drop_next (y ∷ ys) zero x e = let same : y ≡ x = cc in ap (λ z. z ∷ ys) same
drop_next (y ∷ ys) (suc i) x e = drop_next ys i x e

-- the block at an index is the first of those that are still to be entered
pub underway-at : (C : Cluster) (s : ℕ) (all : List ReportedSlot) (i : ℕ) (n : ReportedSlot) (first now : Contents) (t u : ReportCounts) → i < length all → n ≡ get_or all i n
    → IsUnderway C s all (drop i all) first now t u → IsUnderway C s all (n ∷ drop (suc i) all) first now t u
underway-at C s all i n first now t u below read f =
    let P : List ReportedSlot → Type 0 = λ r. IsUnderway C s all r first now t u in
    subst P (drop_next all i n (slice_get_read all (length all) i n refl below read)) f

pub underway-next : (C : Cluster) (s : ℕ) (all xs rest : List ReportedSlot) (first now next : Contents) (t u v : ReportCounts)
    → IsUnderway C s all (xs ++ rest) first now t u → IsEntered C s xs now next → IsCounted C s xs now next u v → IsUnderway C s all rest first next t v
underway-next C s all xs rest first now next t u v f e k =
    let P : ℕ → Type 0 = λ n. FitsCounters u n in
    let Q : _ → Type 0 = λ K. IsOncePerNode C K in
    record {
      here = here-framed s now next rest e.frame (here-rest now xs rest f.here);
      capacity = capacity-framed s now next rest e.frame (capacity-rest now s xs rest f.capacity);
      once = subst Q (sym e.replicas) (once-entered_all C (blocks_of now) s xs (replicas_of now) f.once);
      head = e.frame.heads s f.head;
      small = small-next C s (length rest) xs now next u v k (subst P (length-append xs rest) f.small);
      entered = λ last g. f.entered last (entered-append C s xs rest now next last e g);
      counted = λ last w g. f.counted last w (counted-append C s xs rest now next last e u v w k g);
    }

pub underway-last : (C : Cluster) (s : ℕ) (all rest : List ReportedSlot) (first now : Contents) (t u : ReportCounts) → rest ≡ [] → IsUnderway C s all rest first now t u
    → IsEntered C s all first now × IsCounted C s all first now t u
underway-last C s all [] first now t u none f = (f.entered now (entered-none C s now), f.counted now u (counted-none C s now u))
underway-last C s all (n ∷ rest) first now t u none f = cc

-- the next item of a list
pub drop_all : {X : Type 0} (xs : List X) (i : ℕ) → length xs ≤ i → drop i xs ≡ []
drop_all [] zero h = refl
drop_all [] (suc i) h = refl
drop_all (x ∷ xs) zero h = absurd (omega arith)
drop_all (x ∷ xs) (suc i) h = drop_all xs i (omega arith)
