-- Ascending lists of the same numbers are equal; missing blocks and free bytes after deaths.
use Rattle.std.proofs.Common.{◌≡◌, ◌∙◌, ℕ, ◌+◌, ◌<◌, ◌≤◌, Bool, true, false, cond, not, ◌&&◌, ◌||◌, List, [], ◌∷◌, Option, Some, None, refl, sym, ap, subst, map, filter, length, arith, ⊎_elim}
use Rattle.std.specs.Prelude.{◌==◌, suc, nat_lt, sum_by, slice_index, unwrap_or}
use Rattle.std.specs.List.{list_any}
use Rattle.std.specs.List.Sorted.{IsStrictlyIncreasing}
use Rattle.std.specs.Option.{option_map_or}
use Rattle.std.proofs.Math.Bool.{and-true}
use Rattle.std.proofs.lemmas.Bool.{cases_lt, eqb-true, eq-eqb, false≢true, ne_eqb}
use Rattle.std.proofs.lemmas.Bool.Decides.{nat_tests}
use Rattle.std.proofs.lemmas.List.Sums.{sum_by-cons}
use Rattle.bm_base.specs.declared.event.Event.{Event}
use Rattle.bm_base.specs.declared.storage.StorageInfo.{StorageInfo}
use Rattle.bm_base.specs.Promises.Lawful.{IsLawful}
use Rattle.bm_base.specs.Spread.{spread}
use Rattle.bm_base.specs.Words.{State, Cluster, contains_key, distinct, entries, get, has, is_multi_rack, keys, missing_blocks, node_of, remaining, usable}
use Rattle.bm_base.proofs.Distinct.{capped_spread, is_two}
use Rattle.bm_base.proofs.ForEach.{Each, each_filtered, each_then}
use Rattle.bm_base.proofs.ListTests.{any_agree, any_filter, has_filter}
use Rattle.bm_base.proofs.MapEntries.{each_entry}
use Rattle.bm_base.proofs.Options.{there}
use Rattle.bm_base.proofs.Sets.{has_keys}
use Rattle.cluster_lost.specs.Deaths.{death, is_among}
use Rattle.cluster_lost.specs.Losses.{after_losses, are_losses, is_lost, is_missing, is_taken, lost_blocks}
use Rattle.cluster_lost.proofs.Deaths.{without_dead}
use Rattle.cluster_lost.proofs.RemainingReplicas.{blocks_stay, left_law, missing_is_unusable}
use Rattle.cluster_lost.proofs.After.{filter_of_map}
use Rattle.cluster_lost.proofs.Sums.{Increases, keys_rise, sum_same}
use Rattle.cluster_losses.specs.FailureDomains.{rack_number}
use Rattle.cluster_losses.specs.LackingBytes.{free_for_copies, free_on}
use Rattle.cluster_losses.specs.RowCounts.{IsMerged, is_on_any, racks_without}
use Rattle.cluster_losses.proofs.RowCounts.{gone_by_node}

-- Ascending lists.

first_below : (x : ℕ) (xs : List ℕ) → Increases (x ∷ xs) → Each (λ b. x < b) xs
first_below x xs up = up.0

not_below : (b : ℕ) (ys : List ℕ) → Each (λ y. b < y) ys → has ys b ≡ false
not_below b [] h = refl
not_below b (y ∷ ys) h = let less = h.0 in let apart : (y == b) ≡ false = grind (arith, nat_tests, less) in ap (λ z. z || has ys b) apart ∙ not_below b ys h.1

own_first : (x : ℕ) (xs : List ℕ) → has (x ∷ xs) x ≡ true
own_first x xs = ap (λ z. z || has xs x) (eq-eqb x x refl)

-- the first of two ascending lists of the same numbers
same_heads : (x y : ℕ) (xs ys : List ℕ) → Increases (x ∷ xs) → Increases (y ∷ ys) → ((b : ℕ) → has (x ∷ xs) b ≡ has (y ∷ ys) b) → x ≡ y
same_heads x y xs ys up uq same = ⊎_elim
    (λ less. absurd (false≢true (sym (not_below x (y ∷ ys) (less, each_then (λ b. y < b) (λ b. x < b) ys uq.0 (λ b h. omega (arith, less, h)))) ∙ sym (same x) ∙ own_first x xs)))
    (λ le. ⊎_elim
    (λ less. absurd (false≢true (sym (not_below y (x ∷ xs) (less, each_then (λ b. x < b) (λ b. y < b) xs up.0 (λ b h. omega (arith, less, h)))) ∙ same y ∙ own_first y ys)))
    (λ ge. omega (arith, le, ge))
    (cases_lt y x))
    (cases_lt x y)

same_tails : (x : ℕ) (xs ys : List ℕ) → Each (λ b. x < b) xs → Each (λ b. x < b) ys → ((b : ℕ) → has (x ∷ xs) b ≡ has (x ∷ ys) b) → (b : ℕ) → has xs b ≡ has ys b
same_tails x xs ys up uq same b = by (x == b) refl
  where
    by : (t : Bool) → (x == b) ≡ t → has xs b ≡ has ys b
    by true is = let at : x ≡ b = eqb-true x b is in subst (λ c. has xs c ≡ has ys c) at (not_below x xs up ∙ sym (not_below x ys uq))
    by false is = ap (λ z. z || has xs b) (sym is) ∙ same b ∙ ap (λ z. z || has ys b) is

pub same_increasing : (xs ys : List ℕ) → Increases xs → Increases ys → ((b : ℕ) → has xs b ≡ has ys b) → xs ≡ ys
same_increasing [] [] up uq same = refl
same_increasing [] (y ∷ ys) up uq same = absurd (false≢true (same y ∙ own_first y ys))
same_increasing (x ∷ xs) [] up uq same = absurd (false≢true (sym (same x) ∙ own_first x xs))
same_increasing (x ∷ xs) (y ∷ ys) up uq same =
    let heads : y ≡ x = sym (same_heads x y xs ys up uq same) in
    let below : Each (λ b. x < b) ys = subst (λ z. Each (λ b. z < b) ys) heads uq.0 in
    let alike : (b : ℕ) → has (x ∷ xs) b ≡ has (x ∷ ys) b = subst (λ z. (b : ℕ) → has (x ∷ xs) b ≡ has (z ∷ ys) b) heads same in
    ap (λ zs. x ∷ zs) (same_increasing xs ys up.1 uq.1 (same_tails x xs ys up.0 below alike)) ∙ ap (λ z. z ∷ ys) (sym heads)

increases_filter : (p : ℕ → Bool) (xs : List ℕ) → Increases xs → Increases (filter p xs)
increases_filter p [] up = tt
increases_filter p (x ∷ xs) up = elim (p x) as (λ b. Increases (cond b (x ∷ filter p xs) (filter p xs))) [
  | true ↦ (each_filtered (λ b. x < b) p xs up.0, increases_filter p xs up.1)
  | false ↦ increases_filter p xs up.1
]

-- by the index, and by the list
tail_up : (x : ℕ) (xs : List ℕ) → IsStrictlyIncreasing (x ∷ xs) → IsStrictlyIncreasing xs
tail_up x xs up = λ k low. let next : suc k + 1 ≡ suc (k + 1) = omega arith in subst (λ j. slice_index xs k < slice_index (x ∷ xs) j) next (up (suc k) (omega (arith, low)))

pub increases_from : (xs : List ℕ) → IsStrictlyIncreasing xs → Increases xs
increases_from [] up = tt
increases_from (x ∷ []) up = (tt, tt)
increases_from (x ∷ y ∷ xs) up =
    let rest = increases_from (y ∷ xs) (tail_up x (y ∷ xs) up) in
    let less : x < y = up 0 (omega arith) in
    ((less, each_then (λ b. y < b) (λ b. x < b) xs rest.0 (λ b h. omega (arith, less, h))), rest)

-- Missing blocks.

are_deaths : (ns : List ℕ) → are_losses (map death ns) ≡ true
are_deaths [] = refl
are_deaths (n ∷ ns) = are_deaths ns

missing_parts : (left : ℕ → Bool) (ss : List ℕ) → not (list_any left ss) ≡ (not (list_any (λ _. true) ss) || (not (length ss == 0) && not (list_any left ss)))
missing_parts left [] = refl
missing_parts left (s ∷ ss) = ap (λ b. not b && not (list_any left (s ∷ ss))) (sym (ne_eqb (length (s ∷ ss)) 0 (λ e. absurd (omega (arith, e)))))

pub merged_missing : (M : State) (ns zs : List ℕ) → IsLawful M → IsMerged (missing_blocks M.cluster M.holdings) (lost_blocks M (map death ns)) zs
    → zs ≡ missing_blocks (after_losses M (map death ns)).cluster (after_losses M (map death ns)).holdings
unfolding missing_blocks lost_blocks
merged_missing M ns zs lawful merged =
    same_increasing zs (filter (is_missing N) (keys N.holdings.blocks)) (increases_from zs merged.ascending) (increases_filter (is_missing N) (keys N.holdings.blocks) (keys_rise N.holdings.blocks)) alike
  where
    N : State
    N = after_losses M (map death ns)

    es : List Event
    es = map death ns

    ks : List ℕ
    ks = keys M.holdings.blocks

    blocks : N.holdings.blocks ≡ M.holdings.blocks
    blocks = blocks_stay M es (are_deaths ns)

    by : (b : ℕ) (x : Bool) → has ks b ≡ x → ((is_missing M b && x) || (is_lost M es b && x)) ≡ (is_missing N b && x)
    by b false none = ap (λ y. y || (is_lost M es b && false)) (and_false (is_missing M b)) ∙ and_false (is_lost M es b) ∙ sym (and_false (is_missing N b))
      where
        and_false : (y : Bool) → (y && false) ≡ false
        and_false true = refl
        and_false false = refl
    by b true some =
        let known : contains_key M.holdings.blocks b ≡ true = sym (has_keys M.holdings.blocks b) ∙ some in
        let i = there (get M.holdings.blocks b) known in
        (λ j. and-true (is_missing M b) j || and-true (is_lost M es b) j)
        ∙ ap (λ y. y || is_lost M es b) (missing_is_unusable M b i.0 i.1 (lawful.holdings.replicated b i.0 i.1).0)
        ∙ sym (missing_parts (λ s. not (is_taken M.cluster es s)) (usable M.holdings b))
        ∙ sym (left_law M es b lawful.holdings (are_deaths ns) known)
        ∙ sym (and-true (is_missing N b))

    alike : (b : ℕ) → has zs b ≡ has (filter (is_missing N) (keys N.holdings.blocks)) b
    alike b =
        merged.all b ∙ (λ j. has_filter (is_missing M) ks b j || has_filter (is_lost M es) ks b j) ∙ by b (has ks b) refl
        ∙ sym (has_filter (is_missing N) (keys N.holdings.blocks) b ∙ ap (λ m. is_missing N b && has (keys m) b) blocks)

-- Free bytes.

sum_of_filter : (p : ℕ → Bool) (f : ℕ → ℕ) (xs : List ℕ) → sum_by f (filter p xs) ≡ sum_by (λ x. cond (p x) (f x) 0) xs
sum_of_filter p f [] = refl
sum_of_filter p f (x ∷ xs) = elim (p x) as (λ b. (p x) ≡ b → sum_by f (cond b (x ∷ filter p xs) (filter p xs)) ≡ sum_by (λ x. cond (p x) (f x) 0) (x ∷ xs)) [
  | true ↦ λ is. let rest = sum_of_filter p f xs in let here : cond (p x) (f x) 0 ≡ f x = ap (λ b. cond b (f x) 0) is in omega (arith, rest, here, sum_by-cons f x (filter p xs), sum_by-cons (λ x. cond (p x) (f x) 0) x xs)
  | false ↦ λ is. let rest = sum_of_filter p f xs in let here : cond (p x) (f x) 0 ≡ 0 = ap (λ b. cond b (f x) 0) is in omega (arith, rest, here, sum_by-cons (λ x. cond (p x) (f x) 0) x xs)
] refl

remaining_same : (C D : Cluster) (s : ℕ) → get D.storages s ≡ get C.storages s → remaining D s ≡ remaining C s
unfolding remaining
remaining_same C D s same = ap (λ o. option_map_or (λ (i : StorageInfo). i.remaining) o 0) same

pub free_left : (M : State) (ns : List ℕ) → sum_by (λ s. cond (is_on_any M.cluster ns s) 0 (free_on M.cluster s)) (keys M.cluster.storages) ≡ free_for_copies (after_losses M (map death ns)).cluster
unfolding keys
free_left M ns =
    let C = M.cluster in
    let N = after_losses M (map death ns) in
    let w = without_dead M ns in
    let ss : List ℕ = map (λ e. e.0) (entries C.storages) in
    sym (ap (λ es. sum_by (free_on N.cluster) (map (λ e. e.0) es)) w.storages
    ∙ ap (sum_by (free_on N.cluster)) (sym (filter_of_map (λ s. not (is_taken C (map death ns) s)) (λ e. e.0) (entries C.storages)))
    ∙ sum_of_filter (λ s. not (is_taken C (map death ns) s)) (free_on N.cluster) ss
    ∙ sum_same (λ s. cond (not (is_taken C (map death ns) s)) (free_on N.cluster s) 0) (λ s. cond (is_on_any C ns s) 0 (free_on C s)) ss
    (λ s. by s (is_taken C (map death ns) s) refl ∙ ap (λ b. cond b 0 (free_on C s)) (gone_by_node C ns s)))
  where
    by : (s : ℕ) (x : Bool) → is_taken M.cluster (map death ns) s ≡ x → cond (not x) (free_on (after_losses M (map death ns)).cluster s) 0 ≡ cond x 0 (free_on M.cluster s)
    by s true gone = refl
    by s false stays =
        let w = without_dead M ns in
        (λ i. cond (w.draining s stays i) 0 (remaining_same M.cluster (after_losses M (map death ns)).cluster s (w.info s stays) i))

-- Racks.

map_each : {X : Type 0} (f g : X → ℕ) (xs : List X) → Each (λ x. f x ≡ g x) xs → map f xs ≡ map g xs
map_each f g [] h = refl
map_each f g (x ∷ xs) h = λ i. h.0 i ∷ map_each f g xs h.1 i

map_both : {X Y : Type 0} (g : Y → ℕ) (f : X → Y) (xs : List X) → map g (map f xs) ≡ map (λ x. g (f x)) xs
map_both g f [] = refl
map_both g f (x ∷ xs) = ap (λ zs. g (f x) ∷ zs) (map_both g f xs)

pub racks_left : (M : State) (ns : List ℕ) → nat_lt 1 (spread (racks_without M.cluster ns)) ≡ is_multi_rack (after_losses M (map death ns)).cluster
unfolding is_multi_rack keys
racks_left M ns =
    let C = M.cluster in
    let q : ℕ → Bool = λ n. not (is_among ns n) in
    let left : List (ℕ × ℕ) = filter (λ e. q e.0) (entries C.nodes) in
    let w = without_dead M ns in
    let are : racks_without C ns ≡ map (λ e. e.1) left =
    ap (map (rack_number C)) (filter_of_map q (λ e. e.0) (entries C.nodes)) ∙ map_both (rack_number C) (λ e. e.0) left
    ∙ map_each (λ e. rack_number C e.0) (λ e. e.1) left
    (each_filtered (λ e. rack_number C e.0 ≡ e.1) (λ e. q e.0) (entries C.nodes) (each_then (λ e. get C.nodes e.0 ≡ Some e.1) (λ e. rack_number C e.0 ≡ e.1) (entries C.nodes) (each_entry C.nodes) (λ e h. ap (λ o. unwrap_or o 0) h))) in
    ap (λ rs. nat_lt 1 (spread rs)) are
    ∙ is_two (length (distinct (map (λ e. e.1) left))) (spread (map (λ e. e.1) left)) (capped_spread (map (λ e. e.1) left))
    ∙ ap (λ es. nat_lt 1 (length (distinct (map (λ e. e.1) es)))) (sym w.nodes)
