-- Removing the slot after the delimiter until there is none removes exactly those that were there.
use Rattle.std.proofs.Common.{◌≡◌, ◌≢◌, ℕ, ◌+◌, ◌<◌, ◌^◌, List, [], ◌∷◌, ◌++◌, length, map, Option, Some, None, IsSome, refl, subst, inl, inr, sym, ap, ◌∙◌, arith, eqb, add-one, eq-eqb}
use Rattle.std.specs.Option.{option_map_or, option_and_then}
use Rattle.std.proofs.lemmas.Bool.{cases_Bool, cases_eq, eqb-true}
use Rattle.bm_base.specs.declared.replica.Marks.{Marks}
use Rattle.bm_base.specs.declared.replica.BlockInfo.{BlockInfo}
use Rattle.bm_base.specs.Words.{get, remove, len, replica_at}
use Rattle.bm_arena.specs.Triplets.{Block}
use Rattle.bm_maps.specs.SlotLists.{IsMember, Distinct, without}
use Rattle.bm_maps.specs.SlotLists.{first_of, slot_after}
use Rattle.bm_arena.specs.Contents.{Contents, block_at, slot_of, marks_at, list_of, find_marks, known_of, saturating_next, IsLawful, KeepsOthers}
use Rattle.bm_report.specs.declared.report_counts.ReportCounts.{ReportCounts}
use Rattle.bm_arena.specs.HeldMaps.{replicas_of, id_at}
use Rattle.bm_report.specs.DuringReport.{IsListed, after, behind, out_all, saturating_sum, counts_after_sweep, IsSwept}
use Rattle.bm_arena.proofs.HeldReplicas.{replicas-out, blocks-kept}
use Rattle.bm_arena.proofs.StableEntries.{entries-none, entries-chain, entries-others}
use Rattle.bm_report.proofs.AfterDelimiter.{after-without, IsMember-after}
use Rattle.bm_report.proofs.Frames.{some_there}
use Rattle.bm_report.proofs.Maps.{get-here, len-out}
use Rattle.bm_report.proofs.PartialReport.{listed-none, listed-chain, listed-push}

-- some of the slots after the delimiter are removed, and the rest are still to be removed
pub record IsSweeping (s : ℕ) (first now : Contents) (t u : ReportCounts) (listed_first listed_now : List ℕ) : Type 0 where
  pub put : IsSome (marks_at now now.delimiter s)
  pub swept : (last : Contents) (v : ReportCounts) → IsSwept s (behind now s) now last u v → IsSwept s (behind first s) first last t v
  pub listed : IsListed first now listed_first listed_now
  pub removed : u.removed + length (behind now s) < 2 ^ 127
  pub steps : u.steps + length (behind now s) < 2 ^ 127

-- the slot after the delimiter is the first of those after it
pub first-after : (d : ℕ) (xs : List ℕ) → slot_after d xs ≡ first_of (after d xs)
first-after d [] = refl
first-after d (x ∷ xs) = elim (cases_Bool (eqb x d)) [ inl here ↦ rw here refl | inr other ↦ rw other (first-after d xs) ]

-- the delimiter is not after itself
pub delimiter_before : (d : ℕ) (xs : List ℕ) → Distinct xs → IsMember d (after d xs) → ⊥
delimiter_before d [] distinct m = m
delimiter_before d (x ∷ xs) distinct m =
    elim (cases_Bool (eqb x d)) [
      | inl here ↦ distinct.0 (rw (eqb-true x d here) (rw here at m))
      | inr other ↦ delimiter_before d xs distinct.1 (rw other at m)
    ]

pub empty_first : (xs : List ℕ) → first_of xs ≡ None → xs ≡ []
empty_first [] e = refl
empty_first (x ∷ xs) e = cc

-- the list without its first slot
rest_of : List ℕ → List ℕ
rest_of [] = []
rest_of (x ∷ xs) = xs

first_and_rest : (xs : List ℕ) (x : ℕ) → first_of xs ≡ Some x → xs ≡ x ∷ rest_of xs
unfolding rest_of
first_and_rest [] x e = cc
first_and_rest (y ∷ ys) x e = let same : y ≡ x = cc in ap (λ z. z ∷ ys) same

number_known : (o p : Option Block) → known_of o ≡ known_of p → option_map_or (λ (b : Block). b.id) o 0 ≡ option_map_or (λ (b : Block). b.id) p 0
number_known o p e = sym (by o) ∙ ap (λ k. option_map_or (λ (x : ℕ × Option BlockInfo). x.0) k 0) e ∙ by p
  where
    by : (o : Option Block) → option_map_or (λ (x : ℕ × Option BlockInfo). x.0) (known_of o) 0 ≡ option_map_or (λ (b : Block). b.id) o 0
    by None = refl
    by (Some b) = refl

map_same : (f g : ℕ → ℕ) (xs : List ℕ) → ((x : ℕ) → f x ≡ g x) → map f xs ≡ map g xs
map_same f g [] e = refl
map_same f g (x ∷ xs) e = λ i. e x i ∷ map_same f g xs e i

-- a slot with a replica is that of its number
pub number-leads : (a : Contents) → IsLawful a → (x s : ℕ) → x ≢ a.delimiter → IsSome (marks_at a x s) → slot_of a (id_at a x) ≡ Some x
number-leads a lawful x s apart some = by (block_at a x) refl
  where
    by : (o : Option Block) → block_at a x ≡ o → slot_of a (id_at a x) ≡ Some x
    by None e = absurd (some_there (marks_at a x s) some (ap (λ o. option_and_then (λ (b : Block). find_marks b.replicas s) o) e))
    by (Some b) e = ap (λ o. slot_of a (option_map_or (λ (k : Block). k.id) o 0)) e ∙ lawful.known x b e apart

-- Sweeping no slot, one slot, and slots one after another.

pub swept-none : (s : ℕ) (a : Contents) (t : ReportCounts) → IsSwept s [] a a t t
swept-none s a t = record {
  replicas = refl;
  ids = refl;
  delimiter = refl;
  marker = refl;
  blocks = refl;
  known = λ x. refl;
  heads = λ q h. h;
  adds_steps = λ n h. h;
  added = refl;
  has_invalid_excess = refl;
  removed = omega arith;
  steps = omega arith;
  lengths = omega arith;
  others = λ y out. refl;
  entries = entries-none a;
}

pub swept-cons : (s x : ℕ) (xs : List ℕ) (a b c : Contents) (t u v : ReportCounts) → IsSwept s (x ∷ []) a b t u → IsSwept s xs b c u v → IsSwept s (x ∷ xs) a c t v
swept-cons s x xs a b c t u v f g = record {
  replicas =
      g.replicas
      ∙ (λ i. out_all s (map_same (id_at b) (id_at a) xs (λ y. number_known (block_at b y) (block_at a y) (f.known y)) i) (f.replicas i));
  ids = g.ids ∙ f.ids;
  delimiter = g.delimiter ∙ f.delimiter;
  marker = ap (block_at c) (sym f.delimiter) ∙ g.marker ∙ ap (block_at b) f.delimiter ∙ f.marker;
  blocks = g.blocks ∙ f.blocks;
  known = λ y. g.known y ∙ f.known y;
  heads = λ q h. g.heads q (f.heads q h);
  adds_steps = λ n h. g.adds_steps n (f.adds_steps n h);
  added = g.added ∙ f.added;
  has_invalid_excess = g.has_invalid_excess ∙ f.has_invalid_excess;
  removed = omega (arith, f.removed, g.removed);
  steps = omega (arith, f.steps, g.steps);
  lengths = omega (arith, f.lengths, g.lengths);
  others = λ y out. g.others y (λ m. out (inr m)) ∙ f.others y (λ m. out (first y m));
  entries = entries-chain a b c f.entries g.entries;
}
  where
    first : (y : ℕ) → IsMember y (x ∷ []) → IsMember y (x ∷ xs)
    first y (inl same) = inl same
    first y (inr m) = absurd m

-- the slot after the delimiter has a replica on s
pub next-there : (s x : ℕ) (a : Contents) → IsLawful a → slot_after a.delimiter (list_of a s) ≡ Some x → IsSome (marks_at a x s)
next-there s x a lawful next =
    let P : List ℕ → Type 0 = λ l. IsMember x l in
    let is : behind a s ≡ x ∷ rest_of (behind a s) = first_and_rest (behind a s) x (sym (first-after a.delimiter (list_of a s)) ∙ next) in
    (lawful.exact x s).0 (IsMember-after a.delimiter x (list_of a s) (subst P (sym is) (inl refl)))

module _ (s x : ℕ) (a b : Contents) (lawful : IsLawful a) (next : slot_after a.delimiter (list_of a s) ≡ Some x)
    (others : KeepsOthers a b x s) (gone : marks_at b x s ≡ None) (list : list_of b s ≡ without x (list_of a s)) where
  is_first : first_of (behind a s) ≡ Some x
  is_first = sym (first-after a.delimiter (list_of a s)) ∙ next

  whole : behind a s ≡ x ∷ rest_of (behind a s)
  whole = first_and_rest (behind a s) x is_first

  among_behind : IsMember x (behind a s)
  among_behind = let P : List ℕ → Type 0 = λ l. IsMember x l in subst P (sym whole) (inl refl)

  swept-apart : x ≢ a.delimiter
  swept-apart same = delimiter_before a.delimiter (list_of a s) (lawful.distinct s) (let P : ℕ → Type 0 = λ k. IsMember k (behind a s) in subst P same among_behind)

  pub swept-there : IsSome (marks_at a x s)
  swept-there = (lawful.exact x s).0 (IsMember-after a.delimiter x (list_of a s) among_behind)

  leads : slot_of a (id_at a x) ≡ Some x
  leads = number-leads a lawful x s swept-apart swept-there

  out : replicas_of b ≡ remove (replicas_of a) (replica_at (id_at a x) s)
  out = replicas-out a b lawful x s (id_at a x) leads others.ids others.blocks others.marks gone

  shorter : behind b s ≡ rest_of (behind a s)
  shorter =
      (λ i. after (others.delimiter i) (list i)) ∙ after-without a.delimiter x (list_of a s) swept-apart (lawful.distinct s)
      ∙ ap (without x) whole ∙ first_out
    where
      first_out : without x (x ∷ rest_of (behind a s)) ≡ rest_of (behind a s)
      first_out = rw (eq-eqb x x refl) refl

  pub whole-behind : behind a s ≡ x ∷ behind b s
  whole-behind = whole ∙ ap (λ l. x ∷ l) (sym shorter)

  known_at : (y : ℕ) → known_of (block_at b y) ≡ known_of (block_at a y)
  known_at y = elim (cases_eq y x) [ inl same ↦ rw same others.known | inr differs ↦ ap known_of (others.blocks y differs) ]

  pub swept-one : (t u : ReportCounts) → u ≡ counts_after_sweep t → IsSwept s (x ∷ []) a b t u
  swept-one t u is =
      let P : ReportCounts → Type 0 = λ v. IsSwept s (x ∷ []) a b t v in
      let some : IsSome (get (replicas_of a) (replica_at (id_at a x) s)) = let Q : Option Marks → Type 0 = λ o. IsSome o in subst Q (sym (get-here a (id_at a x) x s leads)) swept-there in
      let fewer = len-out (replicas_of a) (replica_at (id_at a x) s) some in
      let here = ap len out in
      subst P (sym is)
      (record {
        replicas = out;
        ids = others.ids;
        delimiter = others.delimiter;
        marker = others.blocks a.delimiter (λ same. swept-apart (sym same));
        blocks = blocks-kept a b x others.ids others.blocks others.known;
        known = known_at;
        heads = others.heads;
        adds_steps = λ n h. others.steps ∙ ap saturating_next h ∙ ap (λ k. saturating_sum k n) (sym (add-one t.steps));
        added = refl;
        has_invalid_excess = refl;
        removed = omega arith;
        steps = omega arith;
        lengths = omega (arith, fewer, here);
        others = λ y out. others.blocks y (λ same. out (inl same));
        entries = entries-others a b x s others;
      })

  pub sweeping-next : (first : Contents) (t u v : ReportCounts) (ls ms ns : List ℕ) → IsSweeping s first a t u ls ms → v ≡ counts_after_sweep u → ns ≡ ms ++ x ∷ [] → IsSweeping s first b t v ls ns
  sweeping-next first t u v ls ms ns f v_is ns_is =
      let P : List ℕ → Type 0 = λ l. (c : Contents) (w : ReportCounts) → IsSwept s l a c u w → IsSwept s (behind first s) first c t w in
      let Q : Option Block → Type 0 = λ o. IsSome (option_and_then (λ (k : Block). find_marks k.replicas s) o) in
      let same : block_at b b.delimiter ≡ block_at a a.delimiter = ap (block_at b) others.delimiter ∙ others.blocks a.delimiter (λ e. swept-apart (sym e)) in
      let removed_is : v.removed ≡ u.removed + 1 = ap (λ (z : ReportCounts). z.removed) v_is in
      let steps_is : v.steps ≡ u.steps + 1 = ap (λ (z : ReportCounts). z.steps) v_is in
      let count = ap length whole-behind in
      record {
        put = subst Q (sym same) f.put;
        swept = λ c w g. (subst P whole-behind f.swept) c w (swept-cons s x (behind b s) a b c u v w (swept-one u v v_is) g);
        listed = listed-chain first a b ls ms ns f.listed (listed-push a b x ms ns others.blocks ns_is (id_at a x, leads) others.ids);
        removed = omega (arith, removed_is, count, f.removed);
        steps = omega (arith, steps_is, count, f.steps);
      }

pub sweeping-first : (s : ℕ) (a : Contents) (t : ReportCounts) (ls : List ℕ) → IsSome (marks_at a a.delimiter s) → t.removed + length (behind a s) < 2 ^ 127 → t.steps + length (behind a s) < 2 ^ 127 → IsSweeping s a a t t ls ls
sweeping-first s a t ls put removed steps = record { put = put; swept = λ c w g. g; listed = listed-none a ls; removed = removed; steps = steps }

pub nothing-behind : (s : ℕ) (a : Contents) → slot_after a.delimiter (list_of a s) ≡ None → behind a s ≡ []
nothing-behind s a none = empty_first (behind a s) (sym (first-after a.delimiter (list_of a s)) ∙ none)

pub sweeping-last : (s : ℕ) (first a : Contents) (t u : ReportCounts) (ls ms : List ℕ) → slot_after a.delimiter (list_of a s) ≡ None → IsSweeping s first a t u ls ms → IsSwept s (behind first s) first a t u
sweeping-last s first a t u ls ms none f =
    let P : List ℕ → Type 0 = λ l. IsSwept s l a a u u in
    f.swept a u (subst P (sym (nothing-behind s a none)) (swept-none s a u))
