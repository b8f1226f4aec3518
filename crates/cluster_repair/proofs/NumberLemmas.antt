-- Tables of free bytes and of nodes, filled one by one, match the cluster; deletes free bytes.
use Rattle.std.proofs.Common.{◌≡◌, ◌∙◌, ◌+◌, ◌<◌, ◌≤◌, ℕ, Bool, true, false, if◌then◌else◌, List, [], ◌∷◌, ◌++◌, Option, Some, None, refl, sym, ap, length, map, take, take_all, get_or}
use Rattle.std.specs.Prelude.{◌==◌, ◌||◌, is_some, min, nat_eq, option_map, unwrap_or}
use Rattle.std.specs.List.{fold}
use Rattle.std.proofs.lemmas.Bool.{eqb-true}
use Rattle.std.proofs.lemmas.List.{map-append, take_more}
use Rattle.std.proofs.lemmas.List.Sums.{fold-append}
use Rattle.std.proofs.lemmas.List.Folds.{list_any_more}
use Rattle.bm_base.specs.declared.commands.Delete.{Delete}
use Rattle.bm_base.specs.declared.storage.StorageInfo.{StorageInfo}
use Rattle.bm_base.specs.Maps.Map as map_of
use Rattle.bm_base.specs.Words.{Cluster, has, keys}
use Rattle.bm_base.proofs.Sets.{has_keys}
use Rattle.cluster_repair.specs.declared.free_bytes.FreeBytes.{FreeBytes}
use Rattle.cluster_repair.specs.declared.free_bytes.NodeStorages.{NodeStorages}
use Rattle.cluster_repair.specs.History.{numbers_of, with_storages}
use Rattle.cluster_repair.specs.Reports.{free_after}
use Rattle.cluster_repair.specs.LinkModel.{most, free_on, free_in}

-- the number of a key, after one was put
pub number_put : (is_it : Bool) (n : ℕ) (old new : Option ℕ) → new ≡ (if is_it then Some n else old)
    → unwrap_or new 0 ≡ (if is_it then n else unwrap_or old 0)
number_put true n old new h = ap (λ o. unwrap_or o 0) h
number_put false n old new h = ap (λ o. unwrap_or o 0) h

-- Free bytes after deletes.

freed_there : (is_it : Bool) (d other n : ℕ) → (is_it ≡ true → d ≡ other) → (if is_it then min (d + n) most else other) ≡ (if is_it then min (other + n) most else other)
freed_there true d other n same = ap (λ k. min (k + n) most) (same refl)
freed_there false d other n same = refl

pub freed_more : (len : ℕ → ℕ) (ds : List Delete) (i : ℕ) (d : Delete) (s : ℕ) (first old new : FreeBytes) (bytes : ℕ) → i < length ds → d ≡ get_or ds i d → bytes ≡ len d.block
    → free_on old s ≡ fold (free_after len s) (free_on first s) (take i ds)
    → free_on new s ≡ (if nat_eq d.storage s then min (free_on old d.storage + bytes) most else free_on old s)
    → free_on new s ≡ fold (free_after len s) (free_on first s) (take (i + 1) ds)
freed_more len ds i d s first old new bytes below is long before after =
    let f = free_after len s in
    let start = free_on first s in
    after ∙ freed_there (nat_eq d.storage s) (free_on old d.storage) (free_on old s) bytes (λ e. ap (free_on old) (eqb-true d.storage s e))
    ∙ ap (λ n. if nat_eq d.storage s then min (free_on old s + n) most else free_on old s) long ∙ ap (λ n. f n d) before
    ∙ sym (ap (fold f start) (take_more ds i d below) ∙ fold-append f start (take i ds) (get_or ds i d ∷ []) ∙ ap (λ e. f (fold f start (take i ds)) e) (sym is))

pub freed_all : (len : ℕ → ℕ) (ds : List Delete) (i s first now : ℕ) → length ds ≤ i → now ≡ fold (free_after len s) first (take i ds) → now ≡ fold (free_after len s) first ds
freed_all len ds i s first now all is = is ∙ ap (fold (free_after len s) first) (take_all i ds all)

-- Free bytes of storages, one after another.

free_there : (before is_it : Bool) (old new at there : ℕ) → (is_it ≡ true → at ≡ there) → new ≡ (if is_it then at else old) → old ≡ (if before then there else 0)
    → new ≡ (if before || is_it then there else 0)
free_there true true old new at there same is was = is ∙ same refl
free_there true false old new at there same is was = is ∙ was
free_there false true old new at there same is was = is ∙ same refl
free_there false false old new at there same is was = is ∙ was

pub free_more : (C : Cluster) (ss : List ℕ) (i t key s remaining : ℕ) (old new : Option ℕ) → i < length ss → t ≡ get_or ss i t → key ≡ t → remaining ≡ free_in C key
    → unwrap_or old 0 ≡ (if has (take i ss) s then free_in C s else 0) → new ≡ (if nat_eq key s then Some remaining else old)
    → unwrap_or new 0 ≡ (if has (take (i + 1) ss) s then free_in C s else 0)
free_more C ss i t key s remaining old new below is same free was put =
    free_there (has (take i ss) s) (nat_eq t s) (unwrap_or old 0) (unwrap_or new 0) remaining (free_in C s) (λ e. free ∙ ap (free_in C) (same ∙ eqb-true t s e))
    (number_put (nat_eq t s) remaining old new (put ∙ ap (λ k. if nat_eq k s then Some remaining else old) same)) was
    ∙ ap (λ b. if b then free_in C s else 0) (sym (list_any_more (λ x. x == s) ss i t below ∙ ap (λ x. has (take i ss) s || (x == s)) (sym is)))

pub free_all : (C : Cluster) (ss : List ℕ) (i s free : ℕ) → length ss ≤ i → free ≡ (if has (take i ss) s then free_in C s else 0) → free ≡ (if has ss s then free_in C s else 0)
free_all C ss i s free all is = is ∙ ap (λ xs. if has xs s then free_in C s else 0) (take_all i ss all)

unknown_none : (o : Option StorageInfo) → (if is_some o then unwrap_or (option_map (λ i. i.remaining) o) 0 else 0) ≡ unwrap_or (option_map (λ i. i.remaining) o) 0
unknown_none None = refl
unknown_none (Some i) = refl

pub free_known : (C : Cluster) (s : ℕ) (ss xs : List ℕ) (free : ℕ) → ss ≡ keys C.storages → xs ≡ ss → free ≡ (if has xs s then free_in C s else 0) → free ≡ free_in C s
free_known C s ss xs free all same is =
    is ∙ ap (λ ys. if has ys s then free_in C s else 0) (same ∙ all) ∙ ap (λ b. if b then free_in C s else 0) (has_keys C.storages s) ∙ unknown_none (map_of.get C.storages s)

-- Nodes with their storages.

pub nodes_more : (C : Cluster) (items : List ℕ) (i node : ℕ) (n : NodeStorages) (old new : List NodeStorages) → i < length items → node ≡ get_or items i node → new ≡ old ++ n ∷ []
    → numbers_of n ≡ with_storages C node → map numbers_of old ≡ map (with_storages C) (take i items) → map numbers_of new ≡ map (with_storages C) (take (i + 1) items)
nodes_more C items i node n old new below is added same before =
    ap (map numbers_of) added ∙ map-append numbers_of old (n ∷ []) ∙ ap (λ xs. xs ++ numbers_of n ∷ []) before
    ∙ ap (λ x. map (with_storages C) (take i items) ++ x ∷ []) (same ∙ ap (with_storages C) is)
    ∙ sym (ap (map (with_storages C)) (take_more items i node below) ∙ map-append (with_storages C) (take i items) (get_or items i node ∷ []))

pub nodes_all : (C : Cluster) (all items : List ℕ) (i : ℕ) (nodes : List NodeStorages) → length items ≤ i → items ≡ all → all ≡ keys C.nodes
    → map numbers_of nodes ≡ map (with_storages C) (take i items) → map numbers_of nodes ≡ map (with_storages C) (keys C.nodes)
nodes_all C all items i nodes end same known is = is ∙ ap (map (with_storages C)) (take_all i items end ∙ same ∙ known)
