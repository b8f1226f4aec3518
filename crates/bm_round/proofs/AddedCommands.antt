-- A command that is added for a storage is added to the commands of its node, and to no others.
use Rattle.std.proofs.Common.{◌≡◌, ◌<◌, ◌≤◌, ℕ, zero, suc, Bool, true, false, cond, List, [], ◌∷◌, ◌++◌, map, filter, get_or, set, length, Option, Some, None, is_some, refl, sym, ap, subst, ◌∙◌, arith, nat_lt, append-nil, T}
use Rattle.std.specs.Prelude.{◌==◌, option_map}
use Rattle.std.specs.Option.{option_map_or}
use Rattle.std.specs.Ordering.{nat_cmp}
use Rattle.std.specs.FinMap.{is_sorted}
use Rattle.std.specs.FinMap.Entries.{below_all}
use Rattle.std.proofs.lemmas.Bool.{eqb-true, eq-eqb, ltb-true, ltb-false, false≢true}
use Rattle.std.proofs.lemmas.Bool.Decides.{nat_tests}
use Rattle.std.proofs.lemmas.Option.{same_Some}
use Rattle.bm_base.specs.Maps.Conjunction.{first, second}
use Rattle.bm_base.specs.declared.commands.Transfer.{Transfer}
use Rattle.bm_base.specs.declared.commands.Delete.{Delete}
use Rattle.bm_base.specs.declared.commands.NodeCommands.{NodeCommands}
use Rattle.bm_base.specs.Words.{keys, entries, Cluster, node_of, has_storage, node_commands}
use Rattle.bm_round.specs.NodeIndex.{index_where}
use Rattle.bm_base.proofs.Orderings.{less_number}

-- if no number of the list is m, there is no index
pub place_missed : (m : ℕ) (ns : List ℕ) → ((k : ℕ) → k < length ns → get_or ns k 0 ≡ m → ⊥) → None ≡ index_where (λ n. m == n) ns
place_missed m [] h = refl
place_missed m (n ∷ ns) h =
    ap (option_map suc) (place_missed m ns (λ k inside is. h (suc k) (omega (arith, inside)) is))
    ∙ ap (λ b. cond b (Some 0) (option_map suc (index_where (λ n. m == n) ns))) (sym (other (m == n) refl))
  where
    other : (b : Bool) → (m == n) ≡ b → b ≡ false
    other true e = absurd (h 0 (omega arith) (sym (eqb-true m n e)))
    other false e = refl

pub place_below : (p : ℕ → Bool) (ns : List ℕ) (i : ℕ) → index_where p ns ≡ Some i → i < length ns
place_below p [] i e = absurd (false≢true (ap is_some e))
place_below p (n ∷ ns) i e = by (p n) (index_where p ns) e (place_below p ns)
  where
    by : (b : Bool) (o : Option ℕ) → cond b (Some 0) (option_map suc o) ≡ Some i → ((j : ℕ) → o ≡ Some j → j < length ns) → i < suc (length ns)
    by true o e rest = let z = same_Some 0 i e in omega (arith, z)
    by false None e rest = absurd (false≢true (ap is_some e))
    by false (Some j) e rest = let z = same_Some (suc j) i e in let less = rest j refl in omega (arith, z, less)

module _ {X : Type 0} where
  abbrev numbers : List (ℕ × X) → List ℕ
  numbers es = map (λ e. e.0) es

  below_at : (k : ℕ) (es : List (ℕ × X)) (j : ℕ) → T (below_all nat_cmp k es) → j < length (numbers es) → k < get_or (numbers es) j 0
  below_at k [] j h inside = absurd (omega (arith, inside))
  below_at k (e ∷ es) zero h inside = less_number k e.0 (first _ _ h)
  below_at k (e ∷ es) (suc j) h inside = below_at k es j (second _ _ h) (omega (arith, inside))

  pub rise : (es : List (ℕ × X)) → T (is_sorted nat_cmp es) → (i j : ℕ) → i ≤ j → j < length (numbers es) → get_or (numbers es) i 0 ≤ get_or (numbers es) j 0
  rise [] h i j low inside = absurd (omega (arith, inside))
  rise (e ∷ es) h zero zero low inside = omega arith
  rise (e ∷ es) h zero (suc j) low inside = let less = below_at e.0 es j (first _ _ h) (omega (arith, inside)) in omega (arith, less)
  rise (e ∷ es) h (suc i) zero low inside = absurd (omega (arith, low))
  rise (e ∷ es) h (suc i) (suc j) low inside = rise es (second _ _ h) i j (omega (arith, low)) (omega (arith, inside))

  -- a number below all is not among them
  none_above : (m k : ℕ) (es : List (ℕ × X)) → T (below_all nat_cmp k es) → (m == k) ≡ true → index_where (λ n. m == n) (numbers es) ≡ None
  none_above m k [] h same = refl
  none_above m k (e ∷ es) h same =
      let less = less_number k e.0 (first _ _ h) in
      let equal = eqb-true m k same in
      let other : (m == e.0) ≡ false = differ m e.0 (omega (arith, less, equal)) in
      ap (λ b. cond b (Some 0) (option_map suc (index_where (λ n. m == n) (numbers es)))) other ∙ ap (option_map suc) (none_above m k es (second _ _ h) same)
    where
      differ : (a b : ℕ) → a < b → (a == b) ≡ false
      differ a b lt = grind (arith, nat_tests, lt)

  -- the index at which the ascending numbers have m is the one that a search finds
  pub place_found : (m : ℕ) (es : List (ℕ × X)) (i : ℕ) → T (is_sorted nat_cmp es) → i < length (numbers es) → get_or (numbers es) i 0 ≡ m → Some i ≡ index_where (λ n. m == n) (numbers es)
  place_found m [] i h inside is = absurd (omega (arith, inside))
  place_found m (e ∷ es) zero h inside is = ap (λ b. cond b (Some 0) (option_map suc (index_where (λ n. m == n) (numbers es)))) (sym (eq-eqb m e.0 (sym is)))
  place_found m (e ∷ es) (suc i) h inside is =
      let less = below_at e.0 es i (first _ _ h) (omega (arith, inside)) in
      let other : (m == e.0) ≡ false = differ m e.0 (omega (arith, less, is)) in
      ap (option_map suc) (place_found m es i (second _ _ h) (omega (arith, inside)) is)
      ∙ ap (λ b. cond b (Some 0) (option_map suc (index_where (λ n. m == n) (numbers es)))) (sym other)
    where
      differ : (a b : ℕ) → b < a → (a == b) ≡ false
      differ a b lt = grind (arith, nat_tests, lt)

-- Where one node's commands change.

module _ {Y : Type 0} (f g : ℕ → Y) (h : Y → Y) (p : ℕ → Bool) (others : (n : ℕ) → p n ≡ false → f n ≡ g n) (its_own : (n : ℕ) → p n ≡ true → h (f n) ≡ g n) where
  unchanged_if : (n : ℕ) (ns : List ℕ) (b : Bool) → p n ≡ b → cond b (Some 0) (option_map suc (index_where p ns)) ≡ None → (index_where p ns ≡ None → map f ns ≡ map g ns) → map f (n ∷ ns) ≡ map g (n ∷ ns)
  unchanged_if n ns true e none rest = absurd (false≢true (sym (ap is_some none)))
  unchanged_if n ns false e none rest = λ i. others n e i ∷ rest (back (index_where p ns) none) i
    where
      back : (o : Option ℕ) → option_map suc o ≡ None → o ≡ None
      back None e = refl
      back (Some j) e = absurd (false≢true (sym (ap is_some e)))

  pub unchanged : (ns : List ℕ) → index_where p ns ≡ None → map f ns ≡ map g ns
  unchanged [] none = refl
  unchanged (n ∷ ns) none = unchanged_if n ns (p n) refl none (unchanged ns)

module _ {Y : Type 0} (f g : ℕ → Y) (h : Y → Y) (m : ℕ) (others : (n : ℕ) → (m == n) ≡ false → f n ≡ g n) (its_own : (n : ℕ) → (m == n) ≡ true → h (f n) ≡ g n) {X : Type 0} where
  changed_if : (e : ℕ × X) (es : List (ℕ × X)) → T (is_sorted nat_cmp (e ∷ es)) → (i : ℕ) (x : Y) (b : Bool) → (m == e.0) ≡ b → (o : Option ℕ) → index_where (λ n. m == n) (numbers es) ≡ o
      → cond b (Some 0) (option_map suc o) ≡ Some i → x ≡ get_or (map f (numbers (e ∷ es))) i x
      → ((j : ℕ) → index_where (λ n. m == n) (numbers es) ≡ Some j → x ≡ get_or (map f (numbers es)) j x → set (map f (numbers es)) j (h x) ≡ map g (numbers es))
      → set (map f (numbers (e ∷ es))) i (h x) ≡ map g (numbers (e ∷ es))
  changed_if e es sorted i x true same o at is read rest =
      let here : i ≡ 0 = sym (same_Some 0 i is) in
      let none = unchanged f g h (λ n. m == n) others its_own (numbers es) (none_above m e.0 es (first _ _ sorted) same) in
      ap (λ k. set (map f (numbers (e ∷ es))) k (h x)) here
      ∙ (λ k. (ap h (read ∙ ap (λ k. get_or (map f (numbers (e ∷ es))) k x) here) ∙ its_own e.0 same) k ∷ none k)
  changed_if e es sorted i x false other None at is read rest = absurd (false≢true (ap is_some is))
  changed_if e es sorted i x false other (Some j) at is read rest =
      let here : i ≡ suc j = sym (same_Some (suc j) i is) in
      ap (λ k. set (map f (numbers (e ∷ es))) k (h x)) here
      ∙ (λ k. others e.0 other k ∷ rest j at (read ∙ ap (λ k. get_or (map f (numbers (e ∷ es))) k x) here) k)

  pub changed : (es : List (ℕ × X)) → T (is_sorted nat_cmp es) → (i : ℕ) (x : Y) → index_where (λ n. m == n) (numbers es) ≡ Some i → x ≡ get_or (map f (numbers es)) i x
      → set (map f (numbers es)) i (h x) ≡ map g (numbers es)
  changed [] sorted i x is read = absurd (false≢true (ap is_some is))
  changed (e ∷ es) sorted i x is read =
      changed_if e es sorted i x (m == e.0) refl (index_where (λ n. m == n) (numbers es)) refl is read (λ j at there. changed es (second _ _ sorted) j x at there)

-- The same for the nodes of a cluster.

filter_more : {X : Type 0} (p : X → Bool) (xs : List X) (x : X) (b : Bool) → p x ≡ b → filter p (xs ++ x ∷ []) ≡ filter p xs ++ cond b (x ∷ []) []
filter_more p [] x true e = ap (λ b. cond b (x ∷ []) []) e
filter_more p [] x false e = ap (λ b. cond b (x ∷ []) []) e
filter_more p (y ∷ xs) x b e = by (p y) (filter_more p xs x b e)
  where
    by : (t : Bool) → filter p (xs ++ x ∷ []) ≡ filter p xs ++ cond b (x ∷ []) [] → cond t (y ∷ filter p (xs ++ x ∷ [])) (filter p (xs ++ x ∷ [])) ≡ cond t (y ∷ filter p xs) (filter p xs) ++ cond b (x ∷ []) []
    by true rest = ap (λ zs. y ∷ zs) rest
    by false rest = rest

where_known : (C : Cluster) (s m : ℕ) (ns : List ℕ) → node_of C s ≡ Some m → index_where (λ n. m == n) ns ≡ index_where (λ n. has_storage C n s) ns
unfolding has_storage
where_known C s m ns e = ap (λ o. index_where (λ n. option_map_or (λ k. k == n) o false) ns) (sym e)

nowhere : (ns : List ℕ) → None ≡ index_where (λ _. false) ns
nowhere [] = refl
nowhere (n ∷ ns) = ap (option_map suc) (nowhere ns)

pub place_unknown : (C : Cluster) (s : ℕ) (ns : List ℕ) → node_of C s ≡ None → None ≡ index_where (λ n. has_storage C n s) ns
unfolding has_storage
place_unknown C s ns e = nowhere ns ∙ ap (λ o. index_where (λ n. option_map_or (λ k. k == n) o false) ns) (sym e)

module _ (C : Cluster) (s m : ℕ) (ids : List ℕ) (all : ids ≡ keys C.nodes) (of : node_of C s ≡ Some m) where
  pub ids_ascend : (i j : ℕ) → i ≤ j → j < length ids → get_or ids i 0 ≤ get_or ids j 0
  unfolding keys entries
  ids_ascend = subst (λ ns. (i j : ℕ) → i ≤ j → j < length ns → get_or ns i 0 ≤ get_or ns j 0) (sym all) (rise C.nodes.list C.nodes.sorted)

  pub place_of_node : (i : ℕ) → i < length ids → get_or ids i 0 ≡ m → Some i ≡ index_where (λ n. has_storage C n s) ids
  unfolding keys entries
  place_of_node i inside is =
      subst (λ ns. i < length ns → get_or ns i 0 ≡ m → Some i ≡ index_where (λ n. m == n) ns) (sym all) (place_found m C.nodes.list i C.nodes.sorted) inside is
      ∙ where_known C s m ids of

  pub place_of_none : (i : ℕ) → ((k : ℕ) → k < i → get_or ids k 0 < m) → ((k : ℕ) → i ≤ k → k < length ids → m < get_or ids k 0) → None ≡ index_where (λ n. has_storage C n s) ids
  place_of_none i low high =
      place_missed m ids (λ k inside is. by k inside is (nat_lt k i) refl) ∙ where_known C s m ids of
    where
      by : (k : ℕ) → k < length ids → get_or ids k 0 ≡ m → (b : Bool) → nat_lt k i ≡ b → ⊥
      by k inside is true e = let less = low k (ltb-true k i e) in omega (arith, less, is)
      by k inside is false e = let less = high k (ltb-false k i e) inside in omega (arith, less, is)

module _ (C : Cluster) (ts : List Transfer) (ds : List Delete) where
  -- a node's commands with one transfer more, or one delete more
  abbrev pub with_transfer : Transfer → NodeCommands → NodeCommands
  with_transfer t k = record k { transfers = k.transfers ++ t ∷ [] }

  abbrev pub with_delete : Delete → NodeCommands → NodeCommands
  with_delete d k = record k { deletes = k.deletes ++ d ∷ [] }

  commands_if : (n : ℕ) (t : Transfer) (b : Bool) → has_storage C n t.source ≡ b
      → record { node = n; transfers = filter (λ t. has_storage C n t.source) ts ++ cond b (t ∷ []) []; deletes = filter (λ d. has_storage C n d.storage) ds } ≡ node_commands C (ts ++ t ∷ []) ds n
  unfolding node_commands
  commands_if n t b e = ap (λ us. record { node = n; transfers = us; deletes = filter (λ d. has_storage C n d.storage) ds }) (sym (filter_more (λ t. has_storage C n t.source) ts t b e))

  deletes_if : (n : ℕ) (d : Delete) (b : Bool) → has_storage C n d.storage ≡ b
      → record { node = n; transfers = filter (λ t. has_storage C n t.source) ts; deletes = filter (λ d. has_storage C n d.storage) ds ++ cond b (d ∷ []) [] } ≡ node_commands C ts (ds ++ d ∷ []) n
  unfolding node_commands
  deletes_if n d b e = ap (λ us. record { node = n; transfers = filter (λ t. has_storage C n t.source) ts; deletes = us }) (sym (filter_more (λ d. has_storage C n d.storage) ds d b e))

  pub other_transfer : (t : Transfer) (n : ℕ) → has_storage C n t.source ≡ false → node_commands C ts ds n ≡ node_commands C (ts ++ t ∷ []) ds n
  unfolding node_commands
  other_transfer t n e = ap (λ us. record { node = n; transfers = us; deletes = filter (λ d. has_storage C n d.storage) ds }) (sym (append-nil (filter (λ t. has_storage C n t.source) ts))) ∙ commands_if n t false e

  pub own_transfer : (t : Transfer) (n : ℕ) → has_storage C n t.source ≡ true → with_transfer t (node_commands C ts ds n) ≡ node_commands C (ts ++ t ∷ []) ds n
  unfolding node_commands
  own_transfer t n e = commands_if n t true e

  pub other_delete : (d : Delete) (n : ℕ) → has_storage C n d.storage ≡ false → node_commands C ts ds n ≡ node_commands C ts (ds ++ d ∷ []) n
  unfolding node_commands
  other_delete d n e = ap (λ us. record { node = n; transfers = filter (λ t. has_storage C n t.source) ts; deletes = us }) (sym (append-nil (filter (λ d. has_storage C n d.storage) ds))) ∙ deletes_if n d false e

  pub own_delete : (d : Delete) (n : ℕ) → has_storage C n d.storage ≡ true → with_delete d (node_commands C ts ds n) ≡ node_commands C ts (ds ++ d ∷ []) n
  unfolding node_commands
  own_delete d n e = deletes_if n d true e

module _ {Y : Type 0} (C : Cluster) (s : ℕ) (f g : ℕ → Y) (h : Y → Y) where
  changed_by : (o : Option ℕ) → ((n : ℕ) → option_map_or (λ k. k == n) o false ≡ false → f n ≡ g n) → ((n : ℕ) → option_map_or (λ k. k == n) o false ≡ true → h (f n) ≡ g n)
      → (i : ℕ) (x : Y) → index_where (λ n. option_map_or (λ k. k == n) o false) (keys C.nodes) ≡ Some i → x ≡ get_or (map f (keys C.nodes)) i x → set (map f (keys C.nodes)) i (h x) ≡ map g (keys C.nodes)
  unfolding keys entries
  changed_by None others own i x is read = absurd (false≢true (ap is_some (nowhere (keys C.nodes) ∙ is)))
  changed_by (Some m) others own i x is read = changed f g h m others own C.nodes.list C.nodes.sorted i x is read

  -- the commands of a storage's node change
  pub command_changed : ((n : ℕ) → has_storage C n s ≡ false → f n ≡ g n) → ((n : ℕ) → has_storage C n s ≡ true → h (f n) ≡ g n)
      → (i : ℕ) (x : Y) → index_where (λ n. has_storage C n s) (keys C.nodes) ≡ Some i → x ≡ get_or (map f (keys C.nodes)) i x → set (map f (keys C.nodes)) i (h x) ≡ map g (keys C.nodes)
  unfolding has_storage
  command_changed = changed_by (node_of C s)
