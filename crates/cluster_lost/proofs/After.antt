-- What the usable replicas that are left say of a block is what the state after a loss says of it.
use Rattle.std.proofs.Common.{◌≡◌, ◌∙◌, ℕ, ◌+◌, ◌*◌, ◌-◌, ◌<◌, ◌≤◌, Bool, true, false, cond, not, ◌&&◌, ◌||◌, List, [], ◌∷◌, Option, Some, None, is_some, is_none, refl, sym, ap, subst, map, filter, filter_map, length, arith}
use Rattle.std.specs.Prelude.{◌==◌, nat_le, nat_lt, if◌then◌else◌, option_map, option_and_then, sum_by, count_by}
use Rattle.std.specs.List.{list_any, cons_option}
use Rattle.std.specs.Option.{option_map_or}
use Rattle.std.proofs.lemmas.Bool.{lt-leb}
use Rattle.std.proofs.lemmas.List.{length-map}
use Rattle.std.proofs.lemmas.List.Sums.{length-filter}
use Rattle.std.proofs.Math.Bool.{and_comm}
use Rattle.bm_base.specs.declared.replica.ReplicaId.{ReplicaId}
use Rattle.bm_base.specs.declared.replica.Marks.{Marks}
use Rattle.bm_base.specs.declared.replica.BlockInfo.{BlockInfo}
use Rattle.bm_base.specs.declared.replica.Level.{Level}
use Rattle.bm_base.specs.declared.replica.Level.TheVariants.{Highest, VeryUnderReplicated, UnderReplicated, BadlyDistributed, NoUsableReplica}
use Rattle.bm_base.specs.Spread.{spread}
use Rattle.bm_base.specs.Words.{State, Cluster, Holdings, get, entries, distinct, storages_where, usable, live, drained, racks, rack_of, is_draining, is_usable, is_multi_rack, level, level_of, level_without_live}
use Rattle.bm_base.proofs.Distinct.{level_of-spread}
use Rattle.bm_base.proofs.ListTests.{filter_filter}
use Rattle.cluster_lost.specs.Sources.{source_of, is_of, left_without, live_by, drained_by, racks_by, level_by}
use Rattle.cluster_lost.specs.Passes.{Marked, sources}
use Rattle.cluster_lost.specs.Deaths.{IsWithout}
use Rattle.cluster_lost.specs.After.{seen}
use Rattle.cluster_lost.specs.declared.sources.Source.{Source}

map_twice : {X Y Z : Type 0} (g : Y → Z) (f : X → Y) (xs : List X) → map g (map f xs) ≡ map (λ x. g (f x)) xs
map_twice g f [] = refl
map_twice g f (x ∷ xs) = ap (λ zs. g (f x) ∷ zs) (map_twice g f xs)

pub filter_of_map : {X Y : Type 0} (q : Y → Bool) (f : X → Y) (xs : List X) → filter q (map f xs) ≡ map f (filter (λ x. q (f x)) xs)
filter_of_map q f [] = refl
filter_of_map q f (x ∷ xs) = elim (q (f x)) as (λ b. cond b (f x ∷ filter q (map f xs)) (filter q (map f xs)) ≡ map f (cond b (x ∷ filter (λ y. q (f y)) xs) (filter (λ y. q (f y)) xs))) [
  | true ↦ ap (λ ys. f x ∷ ys) (filter_of_map q f xs)
  | false ↦ filter_of_map q f xs
]

abbrev storage_of : Marked → ℕ
storage_of e = e.0.storage

regroup : (a u d : Bool) → ((a && u) && d) ≡ (a && (u && d))
regroup true u d = refl
regroup false u d = refl

-- live and drained replicas are usable ones
live_usable : (C : Cluster) (H : Holdings) (b : ℕ) → live C H b ≡ filter (λ s. not (is_draining C s)) (usable H b)
unfolding storages_where
live_usable C H b =
    let t : Marked → Bool = λ e. (e.0.block == b) && is_usable e.1 in
    sym (λ i. map storage_of (filter (λ e. regroup (e.0.block == b) (is_usable e.1) (not (is_draining C e.0.storage)) i) (entries H.replicas)))
    ∙ ap (map storage_of) (sym (filter_filter (λ e. not (is_draining C e.0.storage)) t (entries H.replicas)))
    ∙ sym (filter_of_map (λ s. not (is_draining C s)) storage_of (filter t (entries H.replicas)))

drained_usable : (C : Cluster) (H : Holdings) (b : ℕ) → drained C H b ≡ filter (is_draining C) (usable H b)
unfolding storages_where
drained_usable C H b =
    let t : Marked → Bool = λ e. (e.0.block == b) && is_usable e.1 in
    sym (λ i. map storage_of (filter (λ e. regroup (e.0.block == b) (is_usable e.1) (is_draining C e.0.storage) i) (entries H.replicas)))
    ∙ ap (map storage_of) (sym (filter_filter (λ e. is_draining C e.0.storage) t (entries H.replicas)))
    ∙ sym (filter_of_map (is_draining C) storage_of (filter t (entries H.replicas)))

pub sources_are : (M : State) (row_of : ℕ → Option ℕ) (b : ℕ) → sources M row_of b ≡ map (source_of M.cluster row_of) (usable M.holdings b)
unfolding storages_where
sources_are M row_of b = sym (map_twice (source_of M.cluster row_of) storage_of (filter (λ e. (e.0.block == b) && is_usable e.1) (entries M.holdings.replicas)))

-- Counts by sources.

module _ (C : Cluster) (row_of : ℕ → Option ℕ) where
  abbrev pub shown : List ℕ → List Source
  shown ss = map (source_of C row_of) ss

  live_shown : (ss : List ℕ) → live_by (shown ss) ≡ length (filter (λ s. not (is_draining C s)) ss)
  live_shown ss =
      sym (length-filter (λ (u : Source). u.live) (shown ss)) ∙ ap length (filter_of_map (λ (u : Source). u.live) (source_of C row_of) ss)
      ∙ length-map (filter (λ s. not (is_draining C s)) ss) (source_of C row_of)

  not_not : (x : Bool) → not (not x) ≡ x
  not_not true = refl
  not_not false = refl

  drained_shown : (ss : List ℕ) → drained_by (shown ss) ≡ length (filter (is_draining C) ss)
  drained_shown ss =
      sym (length-filter (λ (u : Source). not u.live) (shown ss)) ∙ ap length (filter_of_map (λ (u : Source). not u.live) (source_of C row_of) ss)
      ∙ length-map (filter (λ s. not (not (is_draining C s))) ss) (source_of C row_of)
      ∙ (λ i. length (filter (λ s. not_not (is_draining C s) i) ss))

  racks_shown : (ss : List ℕ) → racks_by (shown ss) ≡ filter_map (rack_of C) (filter (λ s. not (is_draining C s)) ss)
  racks_shown [] = refl
  racks_shown (s ∷ ss) = elim (is_draining C s) as (λ x. cons_option (cond (not x) (rack_of C s) None) (racks_by (shown ss)) ≡ filter_map (rack_of C) (cond (not x) (s ∷ filter (λ t. not (is_draining C t)) ss) (filter (λ t. not (is_draining C t)) ss))) [
    | true ↦ racks_shown ss
    | false ↦ ap (cons_option (rack_of C s)) (racks_shown ss)
  ]

-- Levels.

one_rack_only : (enough bad none few none_drained less : Bool)
    → (if enough then (if bad && false then Some BadlyDistributed else None) else Some (if none then (if none_drained then NoUsableReplica else Highest) else if few then Highest else if less then VeryUnderReplicated else UnderReplicated))
    ≡ seen false (if enough then (if bad && true then Some BadlyDistributed else None) else Some (if none then (if none_drained then NoUsableReplica else Highest) else if few then Highest else if less then VeryUnderReplicated else UnderReplicated))
one_rack_only true true none few none_drained less = refl
one_rack_only true false none few none_drained less = refl
one_rack_only false bad true few true less = refl
one_rack_only false bad true few false less = refl
one_rack_only false bad false true none_drained less = refl
one_rack_only false bad false false none_drained true = refl
one_rack_only false bad false false none_drained false = refl

level_seen : (l d repl n : ℕ) (multi : Bool) → level_of (record { live = l; drained = d; wanted = repl; racks = n; multi_rack = multi }) ≡ seen multi (level_of (record { live = l; drained = d; wanted = repl; racks = n; multi_rack = true }))
unfolding level_of
level_seen l d repl n true = refl
level_seen l d repl n false = one_rack_only (nat_le repl l) (nat_lt 1 repl && (n == 1)) (l == 0) (l == 1) (d == 0) (nat_lt (l * 3) repl)

pub level_empty : (i : BlockInfo) → 1 ≤ i.repl → level_by i [] ≡ Some NoUsableReplica
unfolding level_of
level_empty i some = ap (λ x. if x then (if (nat_lt 1 i.repl && (spread [] == 1)) && true then Some BadlyDistributed else None) else Some NoUsableReplica) (none_enough i.repl some)
  where
    none_enough : (n : ℕ) → 1 ≤ n → nat_le n 0 ≡ false
    none_enough n h = lt-leb n 0 (omega (arith, h))

module _ (M N : State) (gone dead : ℕ → Bool) (w : IsWithout M N gone dead) (row_of : ℕ → Option ℕ) where
  abbrev C : Cluster
  C = M.cluster

  abbrev stays : ℕ → Bool
  stays s = not (gone s)

  -- the storages of the usable replicas that are left
  abbrev left : ℕ → List ℕ
  left b = filter stays (usable M.holdings b)

  pub usable_left : (b : ℕ) → usable N.holdings b ≡ left b
  unfolding storages_where
  usable_left b =
      let t : Marked → Bool = λ e. (e.0.block == b) && is_usable e.1 in
      let k : Marked → Bool = λ e. not (gone e.0.storage) in
      let es = entries M.holdings.replicas in
      ap (λ xs. map storage_of (filter t xs)) w.replicas
      ∙ ap (map storage_of) (filter_filter t k es ∙ (λ i. filter (λ e. and_comm (k e) (t e) i) es) ∙ sym (filter_filter k t es))
      ∙ sym (filter_of_map stays storage_of (filter t es))

  same_there : (f g : ℕ → Bool) → ((s : ℕ) → gone s ≡ false → f s ≡ g s) → (ss : List ℕ) → filter f (filter stays ss) ≡ filter g (filter stays ss)
  same_there f g same [] = refl
  same_there f g same (s ∷ ss) = (elim (gone s) as (λ x. gone s ≡ x → filter f (cond (not x) (s ∷ filter stays ss) (filter stays ss)) ≡ filter g (cond (not x) (s ∷ filter stays ss) (filter stays ss))) [
    | true ↦ λ _. same_there f g same ss
    | false ↦ λ h. λ i. cond (same s h i) (s ∷ same_there f g same ss i) (same_there f g same ss i)
  ]) refl

  same_racks : (f g : ℕ → Option ℕ) (q : ℕ → Bool) → ((s : ℕ) → gone s ≡ false → f s ≡ g s) → (ss : List ℕ) → filter_map f (filter q (filter stays ss)) ≡ filter_map g (filter q (filter stays ss))
  same_racks f g q same [] = refl
  same_racks f g q same (s ∷ ss) = (elim (gone s) as (λ x. gone s ≡ x → filter_map f (filter q (cond (not x) (s ∷ filter stays ss) (filter stays ss))) ≡ filter_map g (filter q (cond (not x) (s ∷ filter stays ss) (filter stays ss)))) [
    | true ↦ λ _. same_racks f g q same ss
    | false ↦ λ h. elim (q s) as (λ y. filter_map f (cond y (s ∷ filter q (filter stays ss)) (filter q (filter stays ss))) ≡ filter_map g (cond y (s ∷ filter q (filter stays ss)) (filter q (filter stays ss)))) [
      | true ↦ λ i. cons_option (same s h i) (same_racks f g q same ss i)
      | false ↦ same_racks f g q same ss
    ]
  ]) refl

  abbrev live_left : ℕ → List ℕ
  live_left b = filter (λ s. not (is_draining C s)) (left b)

  live_after : (b : ℕ) → live N.cluster N.holdings b ≡ live_left b
  live_after b =
      live_usable N.cluster N.holdings b ∙ ap (filter (λ s. not (is_draining N.cluster s))) (usable_left b)
      ∙ same_there (λ s. not (is_draining N.cluster s)) (λ s. not (is_draining C s)) (λ s h. ap not (w.draining s h)) (usable M.holdings b)

  drained_after : (b : ℕ) → drained N.cluster N.holdings b ≡ filter (is_draining C) (left b)
  drained_after b =
      drained_usable N.cluster N.holdings b ∙ ap (filter (is_draining N.cluster)) (usable_left b)
      ∙ same_there (is_draining N.cluster) (is_draining C) w.draining (usable M.holdings b)

  racks_after : (b : ℕ) → filter_map (rack_of N.cluster) (live N.cluster N.holdings b) ≡ racks_by (shown C row_of (left b))
  racks_after b =
      ap (filter_map (rack_of N.cluster)) (live_after b) ∙ same_racks (rack_of N.cluster) (rack_of C) (λ s. not (is_draining C s)) w.racks (usable M.holdings b)
      ∙ sym (racks_shown C row_of (left b))

  pub live_count : (b : ℕ) → length (live N.cluster N.holdings b) ≡ live_by (shown C row_of (left b))
  live_count b = ap length (live_after b) ∙ sym (live_shown C row_of (left b))

  pub usable_count : (b : ℕ) → length (usable N.holdings b) ≡ length (shown C row_of (left b))
  usable_count b = ap length (usable_left b) ∙ sym (length-map (left b) (source_of C row_of))

  pub level_after : (b : ℕ) (i : BlockInfo) → get M.holdings.blocks b ≡ Some i → level N.cluster N.holdings b ≡ seen (is_multi_rack N.cluster) (level_by i (shown C row_of (left b)))
  unfolding level racks
  level_after b i known =
      let D = N.cluster in
      let us = shown C row_of (left b) in
      ap (λ o. option_and_then (λ (j : BlockInfo). level_of (record { live = length (live D N.holdings b); drained = length (drained D N.holdings b); wanted = j.repl; racks = length (distinct (filter_map (rack_of D) (live D N.holdings b))); multi_rack = is_multi_rack D })) o) (ap (λ m. get m b) w.blocks ∙ known)
      ∙ (λ k. level_of (record { live = live_count b k; drained = (ap length (drained_after b) ∙ sym (drained_shown C row_of (left b))) k; wanted = i.repl; racks = length (distinct (racks_after b k)); multi_rack = is_multi_rack D }))
      ∙ sym (level_of-spread (live_by us) (drained_by us) i.repl (racks_by us) (is_multi_rack D))
      ∙ level_seen (live_by us) (drained_by us) i.repl (spread (racks_by us)) (is_multi_rack D)

  -- the sources that a row leaves are those on storages that stay
  pub left_shown : (k : ℕ) → ((s : ℕ) → is_of k (source_of C row_of s) ≡ gone s) → (b : ℕ) → left_without k (sources M row_of b) ≡ shown C row_of (left b)
  left_shown k same b =
      ap (left_without k) (sources_are M row_of b) ∙ filter_of_map (λ u. not (is_of k u)) (source_of C row_of) (usable M.holdings b)
      ∙ (λ i. shown C row_of (filter (λ s. not (same s i)) (usable M.holdings b)))
