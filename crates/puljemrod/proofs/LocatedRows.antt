-- Rows of replicas: their order, those of a block, and the storages of the good ones.
use Rattle.std.proofs.Common.{◌≡◌, ◌∙◌, ◌++◌, ◌∷◌, [], cond, ◌&&◌, ◌<◌, ◌≤◌, ◌+◌, ℕ, Bool, true, false, List, sym, ap, refl, subst, arith, length, map, take, drop, filter, get_or, set, min, inl, inr, ⊎_elim}
use Rattle.std.specs.Prelude.{◌==◌, ◌⊎◌, AllPairs, nat_lt, nat_le}
use Rattle.std.specs.List.Sorted.{IsNonDecreasingBy, IsPartitionPoint}
use Rattle.std.proofs.lemmas.Bool.{cases_lt, cases_eq, eq-eqb, eqb-true, false_from_ne_true}
use Rattle.std.proofs.lemmas.List.{append-nil, append_assoc, drop_more, get_or-map, length-append, length-drop, length-map, length-take, map-append, set_at, take_all, take-append-le, take_more}
use Rattle.std.proofs.lemmas.List.Elements.{filter-append}
use Rattle.bm_base.proofs.ForEach.{Each, each_take, each_both, each_then}
use Rattle.bm_base.specs.declared.replica.Replica.{Replica}
use Rattle.bm_base.specs.declared.replica.ReplicaId.{ReplicaId}
use Rattle.bm_base.specs.declared.replica.Marks.{Marks}
use Rattle.bm_base.specs.declared.replica.Tag.{Tag}
use Rattle.bm_base.specs.declared.replica.Tag.TheVariants.{Good, Stale, Bad, Stray}
use Rattle.bm_base.specs.Words.{Holdings, all_replicas, entries, is_good, places, storages_where}
use Rattle.bm_parts.specs.QueryLaws.{replica_key}
use Rattle.laws_of_events.specs.Queries.{IsBefore}
use Rattle.bm_topo.proofs.ByNode.{each_before, each_from, none_left, all_left, parted, differs_below, differs_above, same_between}
use Rattle.puljemrod.specs.declared.lists.ReplicaRow.{ReplicaRow}
use Rattle.puljemrod.specs.ListRows.{replica_row, tag_number, good_storages}

-- Rows in the order of their blocks.

not_after : (p q : Replica) → IsBefore (replica_key p) (replica_key q) → p.block ≤ q.block
not_after p q (inl lt) = let h : p.block < q.block = lt in omega (arith, h)
not_after p q (inr h) = let e : p.block ≡ q.block = h.0 in omega (arith, e)

same_or_less : (i j : ℕ) → i ≤ j → (i < j) ⊎ (i ≡ j)
same_or_less i j le = ⊎_elim (λ lt. inl lt) (λ ge. inr (omega (arith, le, ge))) (cases_lt i j)

no_less : (n : ℕ) → n ≤ n
no_less n = omega arith

pub any_row : ReplicaRow
any_row = record { block = 0; storage = 0; tag = 0 }

any_replica : Replica
any_replica = record { block = 0; storage = 0; tag = Good }

block_at : (rs : List Replica) (i : ℕ) (d : ReplicaRow) → i < length rs → (get_or (map (replica_row tt) rs) i d).block ≡ (get_or rs i any_replica).block
block_at rs i d within = ap (λ (r : ReplicaRow). r.block) (get_or-map (replica_row tt) rs i any_replica d within)

replicas_at : (rs : List Replica) → AllPairs (λ q r. IsBefore (replica_key q) (replica_key r)) rs → (i j : ℕ) → j < length rs → (i < j) ⊎ (i ≡ j)
    → (get_or rs i any_replica).block ≤ (get_or rs j any_replica).block
replicas_at rs pairs i j within (inl lt) = not_after (get_or rs i any_replica) (get_or rs j any_replica) (pairs i j any_replica lt within)
replicas_at rs pairs i j within (inr e) = subst (λ k. (get_or rs i any_replica).block ≤ (get_or rs k any_replica).block) e (no_less (get_or rs i any_replica).block)

blocks_at : (rs : List Replica) → AllPairs (λ q r. IsBefore (replica_key q) (replica_key r)) rs → (i j : ℕ) (d : ReplicaRow) → i ≤ j → j < length (map (replica_row tt) rs)
    → (get_or (map (replica_row tt) rs) i d).block ≤ (get_or (map (replica_row tt) rs) j d).block
blocks_at rs pairs i j d le within =
    let inside : j < length rs = omega (arith, within, length-map rs (replica_row tt)) in
    let h = replicas_at rs pairs i j inside (same_or_less i j le) in
    omega (arith, h, block_at rs i d (omega (arith, le, inside)), block_at rs j d inside)

pub rows_ascend : (rows : List ReplicaRow) (rs : List Replica) → rows ≡ map (replica_row tt) rs → AllPairs (λ q r. IsBefore (replica_key q) (replica_key r)) rs
    → IsNonDecreasingBy (λ r. r.block) rows
rows_ascend rows rs are pairs = subst (IsNonDecreasingBy (λ (r : ReplicaRow). r.block)) (sym are) (λ i j d le within. blocks_at rs pairs i j d le within)

-- two binary searches find those of a block
pub found_of : (rs rest : List ReplicaRow) (b first count : ℕ) → rest ≡ drop first rs → IsPartitionPoint (λ r. nat_lt r.block b ≡ true) (λ r. nat_lt r.block b ≡ false) rs first
    → IsPartitionPoint (λ r. nat_le r.block b ≡ true) (λ r. nat_le r.block b ≡ false) rest count → take count rest ≡ filter (λ r. r.block == b) rs
found_of rs rest b first count is start end =
    let p : ReplicaRow → Bool = λ r. r.block == b in
    let NotLess : ReplicaRow → Type 0 = λ r. nat_lt r.block b ≡ false in
    let NoMore : ReplicaRow → Type 0 = λ r. nat_le r.block b ≡ true in
    let before : filter p (take first rs) ≡ [] =
    none_left p (take first rs) (each_before (λ r. p r ≡ false) rs first (λ k d lt. differs_below (get_or rs k d).block b (start.0 k d (omega arith) lt))) in
    let not_less : Each NotLess rest = subst (Each NotLess) (sym is) (each_from NotLess rs first start.1) in
    let no_more : Each NoMore (take count rest) = each_before NoMore rest count (λ k d lt. end.0 k d (omega arith) lt) in
    let own : Each (λ r. p r ≡ true) (take count rest) =
    each_then (λ r. NotLess r × NoMore r) (λ r. p r ≡ true) (take count rest)
    (each_both NotLess NoMore (take count rest) (each_take NotLess count rest not_less) no_more) (λ r h. same_between r.block b h.0 h.1) in
    let after : filter p (drop count rest) ≡ [] =
    none_left p (drop count rest) (each_from (λ r. p r ≡ false) rest count (λ k d le lt. differs_above (get_or rest k d).block b (end.1 k d le lt))) in
    sym (append-nil (take count rest)) ∙ (λ i. sym (all_left p (take count rest) own) i ++ sym after i) ∙ parted p rest count ∙ ap (filter p) is
    ∙ (λ i. sym before i ++ filter p (drop first rs)) ∙ parted p rs first

-- One more row is copied, or is not.

goods_more : (rs : List ReplicaRow) (i : ℕ) (r : ReplicaRow) → i < length rs → r ≡ get_or rs i r → good_storages (take (i + 1) rs) ≡ good_storages (take i rs) ++ good_storages (r ∷ [])
goods_more rs i r within is =
    let p : ReplicaRow → Bool = λ q. q.tag == 0 in
    ap good_storages (take_more rs i r within ∙ ap (λ q. take i rs ++ q ∷ []) (sym is))
    ∙ ap (map (λ (q : ReplicaRow). q.storage)) (filter-append p (take i rs) (r ∷ []))
    ∙ map-append (λ (q : ReplicaRow). q.storage) (filter p (take i rs)) (filter p (r ∷ []))

goods_one : (r : ReplicaRow) (b : Bool) → (r.tag == 0) ≡ b → good_storages (r ∷ []) ≡ map (λ (q : ReplicaRow). q.storage) (cond b (r ∷ []) [])
goods_one r b e = ap (λ t. map (λ (q : ReplicaRow). q.storage) (cond t (r ∷ []) [])) e

no_good : (r : ReplicaRow) → (r.tag ≡ 0 → ⊥) → good_storages (r ∷ []) ≡ []
no_good r other = goods_one r false (false_from_ne_true (r.tag == 0) (λ t. other (eqb-true r.tag 0 t)))

one_good : (r : ReplicaRow) → r.tag ≡ 0 → good_storages (r ∷ []) ≡ r.storage ∷ []
one_good r good = goods_one r true (eq-eqb r.tag 0 good)

-- what a buffer holds while storages are copied
abbrev pub Copied : List ℕ → List ℕ → List ℕ → ℕ → Type 0
Copied goods old out count = (count ≡ min (length old) (length goods)) × (out ≡ take count goods ++ drop count old)

same_goods : (goods more old out new : List ℕ) (count result : ℕ) → more ≡ goods → (result ≡ count) × (new ≡ out) → Copied goods old out count → Copied more old new result
same_goods goods more old out new count result e same before =
    (omega (arith, same.0, before.0, ap length e), same.1 ∙ before.1 ∙ (λ i. take (sym same.0 i) (sym e i) ++ drop (sym same.0 i) old))

as_long : (goods old out : List ℕ) (count : ℕ) → Copied goods old out count → length out ≡ length old
as_long goods old out count before =
    omega (arith, ap length before.1, length-append (take count goods) (drop count old), length-take count goods, length-drop count old, before.0)

one_copied : (goods old out new : List ℕ) (count result s : ℕ) → count < length out → (result ≡ count + 1) × (new ≡ set out count s) → Copied goods old out count → Copied (goods ++ s ∷ []) old new result
one_copied goods old out new count result s within put before =
    let same = as_long goods old out count before in
    let whole : count ≡ length goods = omega (arith, before.0, within, same) in
    let all : take count goods ≡ goods = take_all count goods (omega (arith, whole)) in
    let parts : out ≡ goods ++ get_or old count s ∷ drop (count + 1) old =
    before.1 ∙ (λ i. all i ++ drop_more old count s (omega (arith, within, same)) i) in
    let long : length (goods ++ s ∷ []) ≡ count + 1 = length-append goods (s ∷ []) ∙ omega (arith, whole) in
    let rows : set out count s ≡ take (count + 1) (goods ++ s ∷ []) ++ drop (count + 1) old =
    ap (λ l. set l count s) parts ∙ set_at goods (get_or old count s) (drop (count + 1) old) s count (sym whole)
    ∙ sym (append_assoc goods (s ∷ []) (drop (count + 1) old)) ∙ ap (λ l. l ++ drop (count + 1) old) (sym (take_all (count + 1) (goods ++ s ∷ []) (omega (arith, long)))) in
    (omega (arith, put.0, long, within, same), put.1 ∙ rows ∙ ap (λ n. take n (goods ++ s ∷ []) ++ drop n old) (sym put.0))

none_copied : (goods old out new : List ℕ) (count result s : ℕ) → length out ≤ count → (result ≡ count) × (new ≡ out) → Copied goods old out count → Copied (goods ++ s ∷ []) old new result
none_copied goods old out new count result s full kept before =
    let same = as_long goods old out count before in
    let long = length-append goods (s ∷ []) in
    let short : take count (goods ++ s ∷ []) ≡ take count goods = take-append-le count goods (s ∷ []) (omega (arith, before.0)) in
    (omega (arith, kept.0, before.0, long, full, same), kept.1 ∙ before.1 ∙ ap (λ l. l ++ drop count old) (sym short) ∙ ap (λ n. take n (goods ++ s ∷ []) ++ drop n old) (sym kept.0))

pub put_one : (rs : List ReplicaRow) (i : ℕ) (r : ReplicaRow) (old out new : List ℕ) (count result : ℕ) → i < length rs → r ≡ get_or rs i r
    → (r.tag ≡ 0 → count < length out → (result ≡ count + 1) × (new ≡ set out count r.storage))
    → (length out ≤ count → (result ≡ count) × (new ≡ out))
    → ((r.tag ≡ 0 → ⊥) → (result ≡ count) × (new ≡ out))
    → Copied (good_storages (take i rs)) old out count → Copied (good_storages (take (i + 1) rs)) old new result
put_one rs i r old out new count result within is put full other before =
    let goods = good_storages (take i rs) in
    let more = goods_more rs i r within is in
    let written : r.tag ≡ 0 → (count < length out) ⊎ (length out ≤ count) → Copied (goods ++ r.storage ∷ []) old new result =
    λ good at. ⊎_elim (λ lt. one_copied goods old out new count result r.storage lt (put good lt) before) (λ le. none_copied goods old out new count result r.storage le (full le) before) at in
    ⊎_elim
    (λ good. subst (λ l. Copied l old new result) (sym (more ∙ ap (λ l. goods ++ l) (one_good r good))) (written good (cases_lt count (length out))))
    (λ bad. same_goods goods (good_storages (take (i + 1) rs)) old out new count result (more ∙ ap (λ l. goods ++ l) (no_good r bad) ∙ append-nil goods) (other bad) before)
    (cases_eq r.tag 0)

-- The good rows of a block have its places.

first_of : (e : ReplicaId × Marks) (t : Tag) (rows : List ReplicaRow) (es : List (ReplicaId × Marks))
    → good_storages rows ≡ map (λ f. f.0.storage) es
    → good_storages (record { block = e.0.block; storage = e.0.storage; tag = tag_number t } ∷ rows) ≡ map (λ f. f.0.storage) (cond (is_good t) (e ∷ es) es)
first_of e Good rows es h = ap (λ l. e.0.storage ∷ l) h
first_of e Stale rows es h = h
first_of e Bad rows es h = h
first_of e Stray rows es h = h

in_block : (b : ℕ) (es : List (ReplicaId × Marks))
    → good_storages (filter (λ r. r.block == b) (map (replica_row tt) (map (λ e. record { block = e.0.block; storage = e.0.storage; tag = e.1.tag }) es)))
    ≡ map (λ e. e.0.storage) (filter (λ e. (e.0.block == b) && is_good e.1.tag) es)
in_block b [] = refl
in_block b (e ∷ es) =
    let rest = in_block b es in
    let rows = filter (λ r. r.block == b) (map (replica_row tt) (map (λ f. record { block = f.0.block; storage = f.0.storage; tag = f.1.tag }) es)) in
    let others = filter (λ f. (f.0.block == b) && is_good f.1.tag) es in
    elim (e.0.block == b) as (λ t. good_storages (cond t (record { block = e.0.block; storage = e.0.storage; tag = tag_number e.1.tag } ∷ rows) rows) ≡ map (λ f. f.0.storage) (cond (t && is_good e.1.tag) (e ∷ others) others)) [
      | true ↦ first_of e e.1.tag rows others rest
      | false ↦ rest
    ]

pub places_in_rows : (H : Holdings) (b : ℕ) (rows : List ReplicaRow) → rows ≡ map (replica_row tt) (all_replicas H) → good_storages (filter (λ r. r.block == b) rows) ≡ places H b
unfolding all_replicas storages_where
places_in_rows H b rows are = ap (λ l. good_storages (filter (λ (r : ReplicaRow). r.block == b) l)) are ∙ in_block b (entries H.replicas)
