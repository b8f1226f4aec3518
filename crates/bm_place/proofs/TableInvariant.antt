-- A new table of storages and its best targets meets the invariant.
use Rattle.std.specs.Prelude.{◌⊎◌, ◌==◌, option_map, option_and_then}
use Rattle.std.specs.Option.{option_map_or}
use Rattle.std.specs.Ordering.{eq_by_cmp, nat_cmp}
use Rattle.std.specs.FinMap.{find, is_sorted}
use Rattle.std.specs.FinMap.Entries.{below_all}
use Rattle.std.proofs.Common.{◌≡◌, ◌≤◌, ℕ, Bool, true, false, cond, List, [], ◌∷◌, map, Option, Some, None, is_some, refl, inl, inr, sym, ap, subst, ◌∙◌, T, arith}
use Rattle.std.proofs.lemmas.Bool.{eq-eqb}
use Rattle.std.proofs.lemmas.List.Sorted.{IsPermutation-sym}
use Rattle.std.proofs.lemmas.Option.{same_Some, cond_some, none-some}
use Rattle.bm_base.specs.Maps.Conjunction.{first, second}
use Rattle.bm_base.specs.Words.{has, Map, by_number, empty, get, entries, keys, Cluster, has_storage, node_of, rack_of, is_draining, drains}
use Rattle.bm_base.specs.declared.storage.StorageInfo.{StorageInfo}
use Rattle.bm_base.proofs.ForEach.{Each, each_then}
use Rattle.bm_base.proofs.MapEntries.{each_entry, each_found, key_itself}
use Rattle.bm_base.proofs.MapLaws.{find_below}
use Rattle.bm_base.proofs.Sets.{has_keys}
use Rattle.bm_place.specs.declared.scheduled_bytes.TargetRow.{TargetRow}
use Rattle.bm_place.specs.Targets.{target_at, target_table}
use Rattle.bm_place.specs.BestTargets.{AreOf, IsMember, AreBestTargets, IsKept, CanReplace, are_of_one_node, with_firsts, AreBestInOrder}
use Rattle.bm_place.proofs.Tables.{get-table}
use Rattle.bm_place.proofs.SameNodeTargets.{IsLike, like, alike}
use Rattle.bm_place.proofs.BestTargets.{AreFirst, covered}
use Rattle.bm_place.proofs.SortedTargets.{AreApart, sorted_in_order}
use Rattle.bm_place.proofs.ListIndices.{moved_among}

pub among_mapped : {X Y : Type 0} (f : X → Y) (xs : List X) (y : Y) → IsMember (map f xs) y → (x : X) × IsMember xs x × (f x ≡ y)
among_mapped f [] y none = absurd none
among_mapped f (x ∷ xs) y (inl e) = (x, inl refl, e)
among_mapped f (x ∷ xs) y (inr there) = let h = among_mapped f xs y there in (h.0, inr h.1, h.2)

each_among : {X : Type 0} (P : X → Type 0) (xs : List X) (x : X) → Each P xs → IsMember xs x → P x
each_among P [] x h none = absurd none
each_among P (y ∷ xs) x h (inl e) = subst P e h.0
each_among P (y ∷ xs) x h (inr there) = each_among P xs x h.1 there

-- the rows of a table
abbrev pub rows_of : Map by_number TargetRow → List TargetRow
rows_of rows = map (λ e. e.1) (entries rows)

found_among : (es : List (ℕ × TargetRow)) (s : ℕ) (t : TargetRow) → find nat_cmp s es ≡ Some t → IsMember (map (λ e. e.1) es) t
found_among [] s t is = cc
found_among (e ∷ es) s t is = by (eq_by_cmp nat_cmp s e.0) is (λ h. found_among es s t h)
  where
    by : (b : Bool) → cond b (Some e.1) (find nat_cmp s es) ≡ Some t → (find nat_cmp s es ≡ Some t → IsMember (map (λ e. e.1) es) t) → (e.1 ≡ t) ⊎ IsMember (map (λ e. e.1) es) t
    by true is rest = inl (same_Some e.1 t is)
    by false is rest = inr (rest is)

pub row_among : (rows : Map by_number TargetRow) (s : ℕ) (t : TargetRow) → get rows s ≡ Some t → IsMember (rows_of rows) t
unfolding get entries
row_among rows s t is = found_among rows.list s t is

pub entries_sorted : (m : Map by_number TargetRow) → T (is_sorted nat_cmp (entries m))
unfolding entries
entries_sorted m = m.sorted

-- targets of different nodes are not alike
apart_of : (es : List (ℕ × TargetRow)) → T (is_sorted nat_cmp es) → Each (λ e. e.1.node ≡ Some e.0) es → AreApart (map (λ e. e.1) es)
apart_of [] sorted on = tt
apart_of (e ∷ es) sorted on = (λ d there. other d there, apart_of es (second (below_all nat_cmp e.0 es) (is_sorted nat_cmp es) sorted) on.1)
  where
    other : (d : TargetRow) → IsMember (map (λ e. e.1) es) d → are_of_one_node e.1 d ≡ false
    other d there =
        let x = among_mapped (λ (e : ℕ × TargetRow). e.1) es d there in
        let is = each_among (λ (e : ℕ × TargetRow). find nat_cmp e.0 es ≡ Some e.1) es x.0 (each_found nat_cmp by_number.same (key_itself by_number) es (second (below_all nat_cmp e.0 es) (is_sorted nat_cmp es) sorted)) x.1 in
        let at = each_among (λ (e : ℕ × TargetRow). e.1.node ≡ Some e.0) es x.0 on.1 x.1 in
        by (are_of_one_node e.1 d) refl x.0 is (ap (λ (t : TargetRow). t.node) (sym x.2) ∙ at)
      where
        none : find nat_cmp e.0 es ≡ None
        none = find_below nat_cmp e.0 es (first (below_all nat_cmp e.0 es) (is_sorted nat_cmp es) sorted)

        by : (b : Bool) → are_of_one_node e.1 d ≡ b → (x : ℕ × TargetRow) → find nat_cmp x.0 es ≡ Some x.1 → d.node ≡ Some x.0 → are_of_one_node e.1 d ≡ false
        by false f x is at = f
        by true f x is at =
            let key = same_Some e.0 x.0 (sym on.0 ∙ (like e.1 d f).node ∙ at) in
            absurd (none-some x.1 (sym none ∙ ap (λ n. find nat_cmp n es) key ∙ is))

module _ (rows : Map by_number TargetRow) (at_storage : (s : ℕ) (t : TargetRow) → get rows s ≡ Some t → t.storage ≡ s) where
  pub among_rows : (t : TargetRow) → IsMember (rows_of rows) t → get rows t.storage ≡ Some t
  among_rows t there =
      let h = among_mapped (λ (e : ℕ × TargetRow). e.1) (entries rows) t there in
      let is = each_among (λ (e : ℕ × TargetRow). get rows e.0 ≡ Some e.1) (entries rows) h.0 (each_entry rows) h.1 in
      ap (get rows) (ap (λ (u : TargetRow). u.storage) (sym h.2) ∙ at_storage h.0.0 h.0.1 is) ∙ is ∙ ap Some h.2

  pub are_best : (cs : List TargetRow) → AreBestInOrder (rows_of rows) cs → ((s : ℕ) (t : TargetRow) → get rows s ≡ Some t → t.scheduled ≤ t.remaining)
      → ((t : TargetRow) → IsMember (rows_of rows) t → (n : ℕ) × (t.node ≡ Some n))
      → ((s t : TargetRow) → IsMember (rows_of rows) s → IsMember (rows_of rows) t → s.node ≡ t.node → are_of_one_node s t ≡ true) → AreBestTargets rows cs
  are_best cs are within on_node alike_on = record {
    known = λ c there. among_rows c (of_rows c there);
    first = λ t is. first_of t (row_among rows t.storage t is);
    within = λ c there. within c.storage c (among_rows c (of_rows c there));
    ordered = sorted_in_order (rows_of firsts) cs (apart_of (entries firsts) (entries_sorted firsts) (each_then (λ e. get firsts e.0 ≡ Some e.1) (λ e. e.1.node ≡ Some e.0) (entries firsts) (each_entry firsts) (λ e is. (all.known e.0 e.1 is).1))) are.same are.in_order;
  }
    where
      firsts : Map by_number TargetRow
      firsts = with_firsts empty (rows_of rows)

      all : AreFirst (IsMember (rows_of rows)) firsts
      all = covered (rows_of rows)

      of_firsts : (c : TargetRow) → IsMember (rows_of firsts) c → IsMember (rows_of rows) c
      of_firsts c there =
          let e = among_mapped (λ (e : ℕ × TargetRow). e.1) (entries firsts) c there in
          subst (IsMember (rows_of rows)) e.2 (all.known e.0.0 e.0.1 (each_among (λ (e : ℕ × TargetRow). get firsts e.0 ≡ Some e.1) (entries firsts) e.0 (each_entry firsts) e.1)).0

      of_rows : (c : TargetRow) → IsMember cs c → IsMember (rows_of rows) c
      of_rows c there = of_firsts c (moved_among cs (rows_of firsts) c (IsPermutation-sym (rows_of firsts) cs are.same) there)

      first_of : (t : TargetRow) → IsMember (rows_of rows) t → (c : TargetRow) × IsMember cs c × CanReplace c t
      first_of t there =
          let n = on_node t there in
          let c = all.first t n.0 there n.1 in
          let k = all.known n.0 c.0 c.1 in (
            c.0,
            moved_among (rows_of firsts) cs c.0 are.same (row_among firsts n.0 c.0 c.1),
            record { alike = alike_on c.0 t k.0 there (k.1 ∙ sym n.1); before = c.2 },
          )

-- A table of a cluster with nothing scheduled yet.

row_made : (C : Cluster) (s : ℕ) (t : TargetRow) → get (target_table C (λ _. 0)) s ≡ Some t → (target_at C (λ _. 0) s ≡ t) × (has (keys C.storages) s ≡ true)
row_made C s t is = let h = cond_some (has (keys C.storages) s) (target_at C (λ _. 0) s) t (sym (get-table (target_at C (λ _. 0)) (keys C.storages) s) ∙ is) in (h.1, h.0)

on_node : (C : Cluster) (s : ℕ) → has (keys C.storages) s ≡ true → (n : ℕ) × (node_of C s ≡ Some n)
unfolding node_of
on_node C s there = by (get C.storages s) (sym (has_keys C.storages s) ∙ there)
  where
    by : (o : Option StorageInfo) → is_some o ≡ true → (n : ℕ) × (option_map (λ (i : StorageInfo). i.node) o ≡ Some n)
    by None none = cc
    by (Some i) e = (i.node, refl)

alike_on : (C : Cluster) (a b : ℕ) → node_of C a ≡ node_of C b → IsLike (target_at C (λ _. 0) a) (target_at C (λ _. 0) b)
unfolding rack_of is_draining
alike_on C a b same = record { node = same; rack = ap (option_and_then (get C.nodes)) same; is_draining = ap (λ o. option_map_or (drains C) o false) same }

pub kept_made : (C : Cluster) (rows : Map by_number TargetRow) (cs : List TargetRow) → rows ≡ target_table C (λ _. 0) → AreBestInOrder (rows_of rows) cs → IsKept rows cs
kept_made C rows cs made are =
    record {
      at_storage = at_storage;
      within = within;
      best_targets = are_best rows at_storage cs are within node one;
    }
  where
    row : (s : ℕ) (t : TargetRow) → get rows s ≡ Some t → (target_at C (λ _. 0) s ≡ t) × (has (keys C.storages) s ≡ true)
    row s t is = row_made C s t (ap (λ m. get m s) (sym made) ∙ is)

    at_storage : (s : ℕ) (t : TargetRow) → get rows s ≡ Some t → t.storage ≡ s
    at_storage s t is = ap (λ (t : TargetRow). t.storage) (sym (row s t is).0)

    within : (s : ℕ) (t : TargetRow) → get rows s ≡ Some t → t.scheduled ≤ t.remaining
    within s t is = subst (λ (t : TargetRow). t.scheduled ≤ t.remaining) (row s t is).0 (omega arith)

    node : (t : TargetRow) → IsMember (rows_of rows) t → (n : ℕ) × (t.node ≡ Some n)
    node t there =
        let r = row t.storage t (among_rows rows at_storage t there) in
        let n = on_node C t.storage r.1 in
        (n.0, ap (λ (t : TargetRow). t.node) (sym r.0) ∙ n.1)

    one : (s t : TargetRow) → IsMember (rows_of rows) s → IsMember (rows_of rows) t → s.node ≡ t.node → are_of_one_node s t ≡ true
    one s t there_s there_t same =
        let a = (row s.storage s (among_rows rows at_storage s there_s)).0 in
        let b = (row t.storage t (among_rows rows at_storage t there_t)).0 in
        (λ i. are_of_one_node (sym a i) (sym b i))
        ∙ alike (target_at C (λ _. 0) s.storage) (target_at C (λ _. 0) t.storage) (alike_on C s.storage t.storage (ap (λ (t : TargetRow). t.node) a ∙ same ∙ ap (λ (t : TargetRow). t.node) (sym b)))

pub of_cluster_made : (C : Cluster) (rows : Map by_number TargetRow) → rows ≡ target_table C (λ _. 0) → AreOf C rows
unfolding has_storage
of_cluster_made C rows made s t is =
    let r = row_made C s t (ap (λ m. get m s) (sym made) ∙ is) in
    let n = on_node C s r.1 in
    (n.0, ap (λ (u : TargetRow). u.node) (sym r.0) ∙ n.1, ap (λ o. option_map_or (λ m. m == n.0) o false) n.1 ∙ eq-eqb n.0 n.0 refl)
