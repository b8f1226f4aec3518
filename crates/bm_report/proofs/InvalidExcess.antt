-- Dropping invalid excess marks one block after another drops those of all named blocks.
use Rattle.std.proofs.Common.{◌≡◌, ℕ, Bool, true, false, not, ◌&&◌, List, [], ◌∷◌, ◌++◌, Option, Some, None, refl, inl, inr, sym, ap, ◌∙◌}
use Rattle.std.specs.Option.{option_map_or, option_and_then}
use Rattle.std.specs.Map.{lookup}
use Rattle.std.specs.Prelude.{nat_eq}
use Rattle.std.proofs.lemmas.Bool.{cases_eq, false≢true}
use Rattle.std.proofs.lemmas.Option.{none-some, same_Some}
use Rattle.bm_base.specs.declared.replica.Marks.{Marks}
use Rattle.bm_base.specs.Words.{get, insert, replica_at, is_good}
use Rattle.bm_arena.specs.Triplets.{Block}
use Rattle.bm_arena.specs.Contents.{Contents, block_at, slot_of, marks_at, find_marks, IsLawful}
use Rattle.bm_report.specs.declared.types.ReportedSlot.{ReportedSlot}
use Rattle.bm_arena.specs.HeldMaps.{replicas_of}
use Rattle.bm_report.specs.DuringReport.{without_invalid_excess, is_excess_good, invalid_excess_out_one, invalid_excess_out_all, AreAtSlots, IsExcessGood, DropsInvalidExcess}
use Rattle.bm_arena.proofs.HeldReplicas.{replicas-put, blocks-kept}
use Rattle.bm_arena.proofs.SetMarks.{set_at, set-elsewhere, set-known, set-marks, set-others}
use Rattle.bm_arena.proofs.StableEntries.{entries-none, entries-chain, set-entries}
use Rattle.bm_report.proofs.Maps.{Held, get-here, insert-same, some_is}

excess_as : (g e : Bool) → not (e && not g) ≡ true → (g && e) ≡ e
excess_as true e h = refl
excess_as false true h = cc
excess_as false false h = refl

-- if excess is good, none is lost
pub nothing_lost : (m : Marks) → is_excess_good m ≡ true → without_invalid_excess m ≡ m
nothing_lost m h = let e = excess_as (is_good m.tag) m.excess h in λ i. record { tag = m.tag; excess = e i; ordered = m.ordered }

kept_one : (s b : ℕ) (K : Held) → ((m : Marks) → get K (replica_at b s) ≡ Some m → is_excess_good m ≡ true) → invalid_excess_out_one s b K ≡ K
kept_one s b K good = by (get K (replica_at b s)) refl
  where
    by : (o : Option Marks) → get K (replica_at b s) ≡ o → option_map_or (λ m. insert K (replica_at b s) (without_invalid_excess m)) o K ≡ K
    by None e = refl
    by (Some m) e = insert-same K (replica_at b s) (without_invalid_excess m) (e ∙ ap (λ x. Some x) (sym (nothing_lost m (good m e))))

pub kept_all : (s : ℕ) (ns : List ReportedSlot) (K : Held) → IsExcessGood K → invalid_excess_out_all s ns K ≡ K
kept_all s [] K good = refl
kept_all s (n ∷ ns) K good = ap (invalid_excess_out_all s ns) (kept_one s n.id K (λ m e. good (replica_at n.id s) m e)) ∙ kept_all s ns K good

pub drops-same : (s : ℕ) (ns : List ReportedSlot) (a : Contents) → invalid_excess_out_all s ns (replicas_of a) ≡ replicas_of a → DropsInvalidExcess s ns a a
drops-same s ns a same = record {
  replicas = sym same;
  ids = refl;
  delimiter = refl;
  marker = refl;
  blocks = refl;
  lists = refl;
  steps = refl;
  others = λ x m e h. refl;
  absent = λ x e. refl;
  entries = entries-none a;
}

pub drops-append : (s : ℕ) (n : ReportedSlot) (ns : List ReportedSlot) (a b c : Contents) → DropsInvalidExcess s (n ∷ []) a b → DropsInvalidExcess s ns b c → DropsInvalidExcess s (n ∷ ns) a c
drops-append s n ns a b c f g = record {
  replicas = g.replicas ∙ ap (invalid_excess_out_all s ns) f.replicas;
  ids = g.ids ∙ f.ids;
  delimiter = g.delimiter ∙ f.delimiter;
  marker = ap (block_at c) (sym f.delimiter) ∙ g.marker ∙ ap (block_at b) f.delimiter ∙ f.marker;
  blocks = g.blocks ∙ f.blocks;
  lists = g.lists ∙ f.lists;
  steps = g.steps ∙ f.steps;
  others = λ x m e h. let same = f.others x m e h in g.others x m (ap (λ o. option_and_then (λ (k : Block). find_marks k.replicas s) o) same ∙ e) h ∙ same;
  absent = λ x e. let same = f.absent x e in g.absent x (ap (λ o. option_and_then (λ (k : Block). find_marks k.replicas s) o) same ∙ e) ∙ same;
  entries = entries-chain a b c f.entries g.entries;
}

invalid_excess_out_all-append : (s : ℕ) (xs ys : List ReportedSlot) (K : Held) → invalid_excess_out_all s (xs ++ ys) K ≡ invalid_excess_out_all s ys (invalid_excess_out_all s xs K)
invalid_excess_out_all-append s [] ys K = refl
invalid_excess_out_all-append s (x ∷ xs) ys K = invalid_excess_out_all-append s xs ys (invalid_excess_out_one s x.id K)

pub drops-join : (s : ℕ) (ns ms : List ReportedSlot) (a b c : Contents) → DropsInvalidExcess s ns a b → DropsInvalidExcess s ms b c → DropsInvalidExcess s (ns ++ ms) a c
drops-join s ns ms a b c f g = record {
  replicas = g.replicas ∙ ap (invalid_excess_out_all s ms) f.replicas ∙ sym (invalid_excess_out_all-append s ns ms (replicas_of a));
  ids = g.ids ∙ f.ids;
  delimiter = g.delimiter ∙ f.delimiter;
  marker = ap (block_at c) (sym f.delimiter) ∙ g.marker ∙ ap (block_at b) f.delimiter ∙ f.marker;
  blocks = g.blocks ∙ f.blocks;
  lists = g.lists ∙ f.lists;
  steps = g.steps ∙ f.steps;
  others = λ x m e h. let same = f.others x m e h in g.others x m (ap (λ o. option_and_then (λ (k : Block). find_marks k.replicas s) o) same ∙ e) h ∙ same;
  absent = λ x e. let same = f.absent x e in g.absent x (ap (λ o. option_and_then (λ (k : Block). find_marks k.replicas s) o) same ∙ e) ∙ same;
  entries = entries-chain a b c f.entries g.entries;
}

pub here-ids : (a b : Contents) (ns : List ReportedSlot) → b.ids ≡ a.ids → AreAtSlots a ns → AreAtSlots b ns
here-ids a b [] e h = tt
here-ids a b (n ∷ ns) e h = (ap (λ l. lookup (nat_eq n.id) l) e ∙ h.0, here-ids a b ns e h.1)

module _ (s : ℕ) (n : ReportedSlot) (a : Contents) (lawful : IsLawful a) (here : slot_of a n.id ≡ Some n.slot) where
  got : get (replicas_of a) (replica_at n.id s) ≡ marks_at a n.slot s
  got = get-here a n.id n.slot s here

  pub drops-none : marks_at a n.slot s ≡ None → DropsInvalidExcess s (n ∷ []) a a
  drops-none none = drops-same s (n ∷ []) a (kept_one s n.id (replicas_of a) (λ m e. absurd (none-some m (sym (got ∙ none) ∙ e))))

  pub drops-good : (m : Marks) → marks_at a n.slot s ≡ Some m → is_excess_good m ≡ true → DropsInvalidExcess s (n ∷ []) a a
  drops-good m at good =
      drops-same s (n ∷ []) a (kept_one s n.id (replicas_of a) (λ k e. let same : m ≡ k = same_Some m k (sym (got ∙ at) ∙ e) in sym (ap is_excess_good same) ∙ good))

  pub drops-set : (m : Marks) → marks_at a n.slot s ≡ Some m → is_excess_good m ≡ false → DropsInvalidExcess s (n ∷ []) a (set_at a n.slot s (without_invalid_excess m))
  drops-set m at bad = record {
    replicas =
        replicas-put a (set_at a n.slot s (without_invalid_excess m)) lawful n.slot s n.id here refl (set-elsewhere a n.slot s (without_invalid_excess m)) (set-others a n.slot s (without_invalid_excess m)) (without_invalid_excess m)
        (set-marks a n.slot s (without_invalid_excess m) (some_is (marks_at a n.slot s) m at))
        ∙ sym (ap (λ o. option_map_or (λ x. insert (replicas_of a) (replica_at n.id s) (without_invalid_excess x)) o (replicas_of a)) (got ∙ at));
    ids = refl;
    delimiter = refl;
    marker = set-elsewhere a n.slot s (without_invalid_excess m) a.delimiter (λ same. (lawful.found n.id n.slot here).0 (sym same));
    blocks = blocks-kept a (set_at a n.slot s (without_invalid_excess m)) n.slot refl (set-elsewhere a n.slot s (without_invalid_excess m)) (set-known a n.slot s (without_invalid_excess m));
    lists = refl;
    steps = refl;
    others = λ x k e h.
        elim (cases_eq x n.slot) [
          | inl same ↦
              let at_k : marks_at a n.slot s ≡ Some k = rw same at e in
              let is : m ≡ k = same_Some m k (sym at ∙ at_k) in
              absurd (false≢true (sym bad ∙ ap is_excess_good is ∙ h))
          | inr differs ↦ set-elsewhere a n.slot s (without_invalid_excess m) x differs
        ];
    absent = λ x e.
        elim (cases_eq x n.slot) [
          | inl same ↦ let none : marks_at a n.slot s ≡ None = rw same at e in absurd (none-some m (sym none ∙ at))
          | inr differs ↦ set-elsewhere a n.slot s (without_invalid_excess m) x differs
        ];
    entries = set-entries a n.slot s (without_invalid_excess m);
  }
