-- A scan finds the least source that may send: a draining one if one sends fewer than four.
use Rattle.std.specs.Prelude.{option_map, nat_lt}
use Rattle.std.specs.Ordering.{is_lt, nat_cmp, ordering_then}
use Rattle.std.proofs.Common.{◌≡◌, ℕ, ◌≤◌, ◌<◌, Bool, true, false, List, map, drop, filter, length, Option, Some, None, refl, sym, ap, ◌∙◌, true≢false}
use Rattle.std.specs.Cmp.{IsTotalOrder, nat_cmp_total}
use Rattle.std.proofs.lemmas.Cmp.{on_total, then_total}
use Rattle.std.proofs.lemmas.List.{at_drop_all}
use Rattle.std.proofs.lemmas.Bool.{lt-ltb}
use Rattle.bm_base.specs.declared.replica.Level.{Level}
use Rattle.bm_base.specs.declared.replica.Level.TheVariants.{Highest, VeryUnderReplicated, UnderReplicated, BadlyDistributed, NoUsableReplica}
use Rattle.bm_base.specs.Words.{Cluster, least, is_draining, node_number, rank_if, source_cmp, stream_limit, least_source_by}
use Rattle.bm_place.specs.declared.source.SourceRow.{SourceRow}
use Rattle.bm_place.specs.Least.{IsLeastOf}
use Rattle.bm_place.specs.Sources.{source_at, cmp_sources, may_send, TakesDrained}
use Rattle.bm_place.specs.Scan.{scan}
use Rattle.bm_place.proofs.RowScan.{scan-found}

pub source_cmp_total : (C : Cluster) (streams : ℕ → ℕ) → IsTotalOrder (source_cmp C streams)
unfolding source_cmp
source_cmp_total C streams =
    then_total (on_total (λ s. rank_if (is_draining C s)) nat_cmp_total)
    (then_total (on_total streams nat_cmp_total) (then_total (on_total (node_number C) nat_cmp_total) nat_cmp_total))

ordered_as : (C : Cluster) (streams : ℕ → ℕ) (s t : ℕ) → cmp_sources (source_at C streams s) (source_at C streams t) ≡ source_cmp C streams s t
unfolding source_cmp
ordered_as C streams s t = refl

storage_again : (C : Cluster) (streams : ℕ → ℕ) (o : Option ℕ) → option_map (λ (s : SourceRow). s.storage) (option_map (source_at C streams) o) ≡ o
storage_again C streams None = refl
storage_again C streams (Some s) = refl

-- a scan with nothing left has found the source
pub source_found : (C : Cluster) (streams : ℕ → ℕ) (urgency : Level) (usable : List ℕ) (best : Option SourceRow) (i : ℕ) → length usable ≤ i
    → scan cmp_sources (may_send urgency) best (map (source_at C streams) (drop i usable)) ≡ scan cmp_sources (may_send urgency) None (map (source_at C streams) usable)
    → option_map (λ (s : SourceRow). s.storage) best ≡ least_source_by C streams urgency usable
unfolding least_source_by
source_found C streams urgency usable best i all inv =
    let test : ℕ → Bool = λ s. nat_lt (streams s) (stream_limit urgency (is_draining C s)) in
    ap (option_map (λ (s : SourceRow). s.storage)) (
    sym (at_drop_all (λ xs. scan cmp_sources (may_send urgency) best (map (source_at C streams) xs)) usable i all)
    ∙ inv
    ∙ scan-found (source_at C streams) cmp_sources (may_send urgency) (source_cmp C streams) test (source_cmp_total C streams) (ordered_as C streams) (λ s. refl) usable
    )
    ∙ storage_again C streams (least (source_cmp C streams) (filter test usable))

-- a node that drains may send four transfers, whatever the level
limit_drained : (urgency : Level) → stream_limit urgency true ≡ 4
limit_drained Highest = refl
limit_drained VeryUnderReplicated = refl
limit_drained UnderReplicated = refl
limit_drained BadlyDistributed = refl
limit_drained NoUsableReplica = refl

module _ (C : Cluster) (streams : ℕ → ℕ) (urgency : Level) where
  abbrev may : ℕ → Bool
  may s = nat_lt (streams s) (stream_limit urgency (is_draining C s))

  drained_may : (s : ℕ) → is_draining C s ≡ true → streams s < 4 → may s ≡ true
  drained_may s e few =
      ap (λ b. nat_lt (streams s) (stream_limit urgency b)) e ∙ ap (λ n. nat_lt (streams s) n) (limit_drained urgency) ∙ lt-ltb (streams s) 4 few

  drained_before : (s r : ℕ) → is_draining C s ≡ true → is_draining C r ≡ false → is_lt (source_cmp C streams s r) ≡ true
  unfolding source_cmp
  drained_before s r e f =
      let rest = ordering_then (nat_cmp (streams s) (streams r)) (ordering_then (nat_cmp (node_number C s) (node_number C r)) (nat_cmp s r)) in
      λ i. is_lt (ordering_then (nat_cmp (rank_if (e i)) (rank_if (f i))) rest)

  pub drained_taken : (usable : List ℕ) (m : Option ℕ) → IsLeastOf (source_cmp C streams) may usable m → TakesDrained C streams usable m
  drained_taken usable None none s there e few = absurd (true≢false (sym (drained_may s e few) ∙ none s there))
  drained_taken usable (Some r) found s there e few = by (is_draining C r) refl
    where
      by : (b : Bool) → is_draining C r ≡ b → is_draining C r ≡ true
      by true f = f
      by false f = absurd (true≢false (sym (drained_before s r e f) ∙ found.2 s there (drained_may s e few)))
