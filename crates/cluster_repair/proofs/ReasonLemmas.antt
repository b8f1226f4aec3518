-- Two binary searches find the replicas of an unrepaired block, which give its defined reason.
use Rattle.std.proofs.Common.{◌≡◌, ◌∙◌, ◌++◌, ◌∷◌, [], ◌<◌, ◌≤◌, ℕ, Bool, true, false, List, sym, ap, subst, arith, length, take, drop, filter, get_or, inl, inr, ⊎_elim}
use Rattle.std.specs.Prelude.{◌==◌, ◌⊎◌, AllPairs, nat_lt, nat_le}
use Rattle.std.specs.List.Sorted.{IsNonDecreasingBy, IsPartitionPoint}
use Rattle.std.proofs.lemmas.Bool.{cases_lt}
use Rattle.std.proofs.lemmas.List.{append-nil}
use Rattle.std.proofs.lemmas.List.Elements.{All-nil, All-same, All-push}
use Rattle.bm_base.proofs.ForEach.{Each, each_take, each_both, each_then}
use Rattle.bm_base.specs.declared.replica.Replica.{Replica}
use Rattle.bm_base.specs.Words.{Holdings, all_replicas}
use Rattle.bm_parts.specs.QueryLaws.{replica_key}
use Rattle.laws_of_events.specs.Queries.{IsBefore}
use Rattle.cluster_report.specs.declared.book.Book.{Book}
use Rattle.cluster_report.specs.Catalogues.{len_in}
use Rattle.cluster_repair.specs.declared.free_bytes.FreeBytes.{FreeBytes}
use Rattle.cluster_repair.specs.declared.reasons.Unmended.{Unmended}
use Rattle.cluster_repair.specs.Reasons.{HasReason, HaveReasons, reason_for}
use Rattle.bm_topo.proofs.ByNode.{each_before, each_from, none_left, all_left, parted, differs_below, differs_above, same_between}

-- Reasons, one after another.

pub no_reasons : (book : Book) (H : Holdings) (f : FreeBytes) (us : List Unmended) → us ≡ [] → HaveReasons book H f us
no_reasons book H f us none = record { all = All-same (HasReason book H f) us [] none (All-nil (HasReason book H f)) }

pub reason_and : (book : Book) (H : Holdings) (f : FreeBytes) (rs : List Replica) (us new : List Unmended) (u : Unmended) → new ≡ us ++ u ∷ [] → rs ≡ all_replicas H
    → u.reason ≡ reason_for book.topology.cluster (filter (λ r. r.block == u.block) rs) u.level (len_in book.blocks u.block) f → HaveReasons book H f us → HaveReasons book H f new
reason_and book H f rs us new u is are one before = record {
  all = All-same (HasReason book H f) new _ is (All-push (HasReason book H f) us u before.all
      (one ∙ ap (λ (qs : List Replica). reason_for book.topology.cluster (filter (λ r. r.block == u.block) qs) u.level (len_in book.blocks u.block) f) are));
}

-- Replicas in the order of their blocks.

not_after : (p q : Replica) → IsBefore (replica_key p) (replica_key q) → p.block ≤ q.block
not_after p q (inl lt) = let h : p.block < q.block = lt in omega (arith, h)
not_after p q (inr h) = let e : p.block ≡ q.block = h.0 in omega (arith, e)

same_or_less : (i j : ℕ) → i ≤ j → (i < j) ⊎ (i ≡ j)
same_or_less i j le = ⊎_elim (λ lt. inl lt) (λ ge. inr (omega (arith, le, ge))) (cases_lt i j)

no_less : (n : ℕ) → n ≤ n
no_less n = omega arith

blocks_at : (rs : List Replica) → AllPairs (λ q r. IsBefore (replica_key q) (replica_key r)) rs → (i j : ℕ) (d : Replica) → j < length rs → (i < j) ⊎ (i ≡ j)
    → (get_or rs i d).block ≤ (get_or rs j d).block
blocks_at rs pairs i j d within (inl lt) = not_after (get_or rs i d) (get_or rs j d) (pairs i j d lt within)
blocks_at rs pairs i j d within (inr e) = subst (λ k. (get_or rs i d).block ≤ (get_or rs k d).block) e (no_less (get_or rs i d).block)

pub blocks_ascend : (rs all : List Replica) → rs ≡ all → AllPairs (λ q r. IsBefore (replica_key q) (replica_key r)) all → IsNonDecreasingBy (λ r. r.block) rs
blocks_ascend rs all are pairs =
    subst (IsNonDecreasingBy (λ (r : Replica). r.block)) (sym are) (λ i j d le within. blocks_at all pairs i j d within (same_or_less i j le))

-- two binary searches find those of a block
pub found_of : (rs rest : List Replica) (b first count : ℕ) → rest ≡ drop first rs → IsPartitionPoint (λ r. nat_lt r.block b ≡ true) (λ r. nat_lt r.block b ≡ false) rs first
    → IsPartitionPoint (λ r. nat_le r.block b ≡ true) (λ r. nat_le r.block b ≡ false) rest count → take count rest ≡ filter (λ r. r.block == b) rs
found_of rs rest b first count is start end =
    let p : Replica → Bool = λ r. r.block == b in
    let NotLess : Replica → Type 0 = λ r. nat_lt r.block b ≡ false in
    let NoMore : Replica → Type 0 = λ r. nat_le r.block b ≡ true in
    let before : filter p (take first rs) ≡ [] =
    none_left p (take first rs) (each_before (λ r. p r ≡ false) rs first (λ k d lt. differs_below (get_or rs k d).block b (start.0 k d (omega arith) lt))) in
    let not_less : Each NotLess rest = subst (Each NotLess) (sym is) (each_from NotLess rs first start.1) in
    let no_more : Each NoMore (take count rest) = each_before NoMore rest count (λ k d lt. end.0 k d (omega arith) lt) in
    let own : Each (λ r. p r ≡ true) (take count rest) =
    each_then (λ r. NotLess r × NoMore r) (λ r. p r ≡ true) (take count rest)
    (each_both NotLess NoMore (take count rest) (each_take NotLess count rest not_less) no_more) (λ r h. same_between r.block b h.0 h.1) in
    let after : filter p (drop count rest) ≡ [] =
    none_left p (drop count rest) (each_from (λ r. p r ≡ false) rest count (λ k d le lt. differs_above (get_or rest k d).block b (end.1 k d le lt))) in
    sym (append-nil (take count rest)) ∙ (λ i. sym (all_left p (take count rest) own) i ++ sym after i) ∙ parted p rest count ∙ ap (filter p) is
    ∙ (λ i. sym before i ++ filter p (drop first rs)) ∙ parted p rs first
