-- After a full report, a query for the storage's blocks lists exactly those it names, ascending.
use Rattle.std.proofs.Common.{◌≡◌, ℕ, Bool, true, false, cond, ◌&&◌, ◌||◌, Option, Some, is_some, List, [], ◌∷◌, map, filter, refl, sym, ap, subst, ◌∙◌, T, is_lt, eqb-true}
use Rattle.std.specs.Prelude.{◌==◌}
use Rattle.std.specs.Ordering.{eq_by_cmp, nat_cmp}
use Rattle.std.specs.FinMap.{find, is_sorted}
use Rattle.std.specs.FinMap.Entries.{same_entries, below_all}
use Rattle.std.proofs.Math.Bool.{or-false}
use Rattle.bm_base.specs.declared.replica.ReplicaId.{ReplicaId}
use Rattle.bm_base.specs.declared.replica.Marks.{Marks}
use Rattle.bm_base.specs.declared.event.Event.TheVariants.{FullReport}
use Rattle.bm_base.specs.Maps.Conjunction.{both, first, second}
use Rattle.bm_base.specs.Words.{Map, by_number, get, insert, insert_all, empty, keys, entries, contains_key, has, distinct, Holdings, replica_at, replica_cmp, blocks_on}
use Rattle.bm_base.proofs.MapLaws.{get-insert, get-empty}
use Rattle.bm_base.proofs.Ties.{number_tie, replica_tie}
use Rattle.bm_base.proofs.Clusters.{eqb_turned}
use Rattle.bm_base.proofs.Orderings.{lesser_block}
use Rattle.bm_base.proofs.Options.{same_unit}
use Rattle.laws_of_events.proofs.ReportLaws.{is_exact}
use Rattle.laws_of_events.specs.Reports as law

abbrev marked_all : List ℕ → List (ℕ × Unit {0})
marked_all xs = map (λ x. (x, tt)) xs

firsts : (xs : List ℕ) → map (λ e. e.0) (marked_all xs) ≡ xs
firsts [] = refl
firsts (x ∷ xs) = ap (λ ys. x ∷ ys) (firsts xs)

module _ (s : ℕ) where
  -- the blocks of the entries on the storage
  abbrev blocks_in : List (ReplicaId × Marks) → List ℕ
  blocks_in es = map (λ e. e.0.block) (filter (λ e. e.0.storage == s) es)

  below_head : (k b : ℕ) (t : Bool) (bs : List ℕ) → (t ≡ true → T (is_lt (nat_cmp k b))) → T (below_all nat_cmp k (marked_all bs)) → T (below_all nat_cmp k (marked_all (cond t (b ∷ bs) bs)))
  below_head k b true bs h g = both _ _ (h refl) g
  below_head k b false bs h g = g

  cond_mapped : (t : Bool) (e : ReplicaId × Marks) (es : List (ReplicaId × Marks)) → map (λ e. e.0.block) (cond t (e ∷ es) es) ≡ cond t (e.0.block ∷ map (λ e. e.0.block) es) (map (λ e. e.0.block) es)
  cond_mapped true e es = refl
  cond_mapped false e es = refl

  blocks_head : (e : ReplicaId × Marks) (es : List (ReplicaId × Marks)) → blocks_in (e ∷ es) ≡ cond (e.0.storage == s) (e.0.block ∷ blocks_in es) (blocks_in es)
  blocks_head e es = cond_mapped (e.0.storage == s) e (filter (λ e. e.0.storage == s) es)

  below_blocks : (q : ReplicaId) (es : List (ReplicaId × Marks)) → q.storage ≡ s → T (below_all replica_cmp q es) → T (below_all nat_cmp q.block (marked_all (blocks_in es)))
  below_blocks q [] is h = tt
  below_blocks q (e ∷ es) is h =
      subst (λ bs. T (below_all nat_cmp q.block (marked_all bs))) (sym (blocks_head e es))
      (below_head q.block e.0.block (e.0.storage == s) (blocks_in es) (λ t. lesser_block q e.0 (is ∙ sym (eqb-true e.0.storage s t)) (first _ _ h)) (below_blocks q es is (second _ _ h)))

  sorted_head : (b : ℕ) (t : Bool) (bs : List ℕ) → (t ≡ true → T (below_all nat_cmp b (marked_all bs))) → T (is_sorted nat_cmp (marked_all bs)) → T (is_sorted nat_cmp (marked_all (cond t (b ∷ bs) bs)))
  sorted_head b true bs h g = both _ _ (h refl) g
  sorted_head b false bs h g = g

  sorted_blocks : (es : List (ReplicaId × Marks)) → T (is_sorted replica_cmp es) → T (is_sorted nat_cmp (marked_all (blocks_in es)))
  sorted_blocks [] h = tt
  sorted_blocks (e ∷ es) h =
      subst (λ bs. T (is_sorted nat_cmp (marked_all bs))) (sym (blocks_head e es))
      (sorted_head e.0.block (e.0.storage == s) (blocks_in es) (λ t. below_blocks e.0 es (eqb-true e.0.storage s t) (first _ _ h)) (sorted_blocks es (second _ _ h)))

  found_head : (b c : ℕ) (m : Marks) (t : Bool) (bs : List ℕ) (z : Option Marks) → is_some (find nat_cmp b (marked_all bs)) ≡ is_some z
      → is_some (find nat_cmp b (marked_all (cond t (c ∷ bs) bs))) ≡ is_some (cond ((b == c) && t) (Some m) z)
  found_head b c m true bs z e = tied (b == c) (number_tie b c) e
    where
      tied : (u : Bool) → eq_by_cmp nat_cmp b c ≡ u → is_some (find nat_cmp b (marked_all bs)) ≡ is_some z → is_some (cond (eq_by_cmp nat_cmp b c) (Some tt) (find nat_cmp b (marked_all bs))) ≡ is_some (cond (u && true) (Some m) z)
      tied true h g = ap (λ v. is_some (cond v (Some tt) (find nat_cmp b (marked_all bs)))) h
      tied false h g = ap (λ v. is_some (cond v (Some tt) (find nat_cmp b (marked_all bs)))) h ∙ g
  found_head b c m false bs z e = e ∙ none (b == c)
    where
      none : (u : Bool) → is_some z ≡ is_some (cond (u && false) (Some m) z)
      none true = refl
      none false = refl

  found_blocks : (b : ℕ) (es : List (ReplicaId × Marks)) → is_some (find nat_cmp b (marked_all (blocks_in es))) ≡ is_some (find replica_cmp (replica_at b s) es)
  found_blocks b [] = refl
  found_blocks b (e ∷ es) =
      ap (λ bs. is_some (find nat_cmp b (marked_all bs))) (blocks_head e es) ∙ found_head b e.0.block e.1 (e.0.storage == s) (blocks_in es) (find replica_cmp (replica_at b s) es) (found_blocks b es)
      ∙ ap (λ u. is_some (cond u (Some e.1) (find replica_cmp (replica_at b s) es))) (ap (λ u. (b == e.0.block) && u) (eqb_turned e.0.storage s) ∙ sym (replica_tie (replica_at b s) e.0))

-- The distinct numbers of a list.

known_or : (b c : Bool) (z : Option (Unit {0})) → (b || is_some (cond c (Some tt) z)) ≡ ((c || b) || is_some z)
known_or true true z = refl
known_or true false z = refl
known_or false true z = refl
known_or false false z = refl

known_marked : (xs : List ℕ) (m : Map by_number (Unit {0})) (b : ℕ) → contains_key (insert_all m (marked_all xs)) b ≡ (has xs b || contains_key m b)
known_marked [] m b = refl
known_marked (x ∷ xs) m b =
    known_marked xs (insert m x tt) b ∙ ap (λ z. has xs b || is_some z) (get-insert m x tt b) ∙ ap (λ c. has xs b || is_some (cond c (Some tt) (get m b))) (number_tie b x ∙ eqb_turned b x)
    ∙ known_or (has xs b) (x == b) (get m b)

-- the answer of the query, if exactly the blocks in xs have a replica on the storage
blocks_are : (H : Holdings) (s : ℕ) (xs : List ℕ) → ((b : ℕ) → contains_key H.replicas (replica_at b s) ≡ has xs b) → blocks_on H s ≡ distinct xs
unfolding blocks_on distinct keys entries get
blocks_are H s xs reported =
    let all : Map by_number (Unit {0}) = insert_all empty (marked_all xs) in
    let lists : marked_all (blocks_in s H.replicas.list) ≡ all.list =
    same_entries by_number.cmp by_number.total by_number.same (marked_all (blocks_in s H.replicas.list)) all.list (sorted_blocks s H.replicas.list H.replicas.sorted) all.sorted
    (λ b. same_unit (find nat_cmp b (marked_all (blocks_in s H.replicas.list))) (find nat_cmp b all.list)
    (found_blocks s b H.replicas.list ∙ reported b ∙ sym (known_marked xs empty b ∙ ap (λ z. has xs b || is_some z) (get-empty by_number b) ∙ or-false (has xs b)))) in
    sym (firsts (blocks_in s H.replicas.list)) ∙ ap (map (λ e. e.0)) lists

pub asked_after : law.report_is_what_is_asked
asked_after M s es = blocks_are (law.held_after M (FullReport s es)) s (law.numbers_of es) (is_exact M s es)
