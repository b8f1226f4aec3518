-- A report counts exactly the replicas that it added and those that it removed.
use Rattle.std.proofs.Common.{◌≡◌, ◌≢◌, ℕ, ◌+◌, Bool, true, false, cond, not, ◌&&◌, ◌||◌, List, [], ◌∷◌, length, Option, Some, None, is_some, refl, sym, ap, ◌∙◌, arith}
use Rattle.std.specs.Prelude.{◌==◌}
use Rattle.std.specs.List.{list_any}
use Rattle.std.specs.Option.{option_map, option_map_or, option_and_then}
use Rattle.std.proofs.lemmas.Bool.{false≢true, and_parts}
use Rattle.std.proofs.lemmas.List.{length-map}
use Rattle.std.proofs.lemmas.List.Sums.{length-filter}
use Rattle.std.proofs.Math.Bool.{and-false, and_comm}
use Rattle.bm_base.specs.declared.replica.ReplicaId.{ReplicaId}
use Rattle.bm_base.specs.declared.replica.Tag.TheVariants.{Good}
use Rattle.bm_base.specs.declared.replica.Marks.{Marks}
use Rattle.bm_base.specs.declared.replica.Stamp.{Stamp}
use Rattle.bm_base.specs.declared.replica.BlockInfo.{BlockInfo}
use Rattle.bm_base.specs.Words.{Map, by_number, get, insert, keep, revise, len, entries, contains_key, Cluster, by_replica, replica_at, replaces, new_replicas}
use Rattle.bm_base.proofs.MapLaws.{same_map, get-insert, get-keep, get-revise, entries-keep, entries-revise}
use Rattle.bm_base.proofs.Differences.{both_parts, none_new}
use Rattle.bm_base.proofs.Options.{not_there}
use Rattle.bm_report.specs.declared.types.ReportedSlot.{ReportedSlot}
use Rattle.bm_report.specs.DuringReport.{entered_at, entered_one, entered_all, fresh, out_all, without_invalid_excess, invalid_excess_out_all, marks_during_report}
use Rattle.bm_report.proofs.Siblings.{siblings_apart}
use Rattle.bm_report.proofs.Maps.{Held, tie, tied, is_replaced, len-put_new}
use Rattle.bm_report.proofs.OncePerNode.{get-entered_at}
use Rattle.bm_report.proofs.EnteredChain.{entered_one_is}
use Rattle.bm_report.proofs.ReportResult.{last_stamp, entered-own, out-at, invalid_excess_out_all-at}

abbrev pub has : Held → ReplicaId → Bool
has K q = contains_key K q

-- maps with the same keys have the same length
abbrev even : Held → Held
even K = revise K (λ _ _. record { tag = Good; excess = false; ordered = false })

len-even : (K : Held) → len (even K) ≡ len K
unfolding len
len-even K = ap length (entries-revise by_replica K (λ _ _. record { tag = Good; excess = false; ordered = false })) ∙ length-map (entries K) _

pub len-same : (K L : Held) → ((q : ReplicaId) → has K q ≡ has L q) → len K ≡ len L
len-same K L same = sym (len-even K) ∙ ap len (same_map (even K) (even L) (λ q. get-revise K _ q ∙ by (get K q) (get L q) (same q) ∙ sym (get-revise L _ q))) ∙ len-even L
  where
    by : (x y : Option Marks) → is_some x ≡ is_some y → option_map {U = Marks} (λ _. record { tag = Good; excess = false; ordered = false }) x ≡ option_map (λ _. record { tag = Good; excess = false; ordered = false }) y
    by None None e = refl
    by None (Some y) e = cc
    by (Some x) None e = cc
    by (Some x) (Some y) e = refl

-- the entries of L whose keys K has not
abbrev apart_from : Held → Held → Held
apart_from K L = keep L (λ q _. not (has K q))

pub new-is : (K L : Held) → new_replicas K L ≡ len (apart_from K L)
unfolding new_replicas len
new-is K L = sym (length-filter (λ e. not (has K e.0)) (entries L)) ∙ sym (ap length (entries-keep by_replica L (λ q _. not (has K q))))

has-kept : (L : Held) (p : ReplicaId → Bool) (q : ReplicaId) → has (keep L (λ k _. p k)) q ≡ (p q && has L q)
has-kept L p q = ap is_some (get-keep L (λ k _. p k) q) ∙ by (p q) (get L q)
  where
    by : (b : Bool) (z : Option Marks) → is_some (option_and_then (λ x. cond b (Some x) None) z) ≡ (b && is_some z)
    by true None = refl
    by true (Some x) = refl
    by false None = refl
    by false (Some x) = refl

pub new-same : (K L M : Held) → ((q : ReplicaId) → has K q ≡ false → has L q ≡ has M q) → new_replicas K L ≡ new_replicas K M
new-same K L M same =
    new-is K L
    ∙ len-same (apart_from K L) (apart_from K M) (λ q. has-kept L (λ k. not (has K k)) q ∙ by q (has K q) refl ∙ sym (has-kept M (λ k. not (has K k)) q))
    ∙ sym (new-is K M)
  where
    by : (q : ReplicaId) (b : Bool) → has K q ≡ b → (not b && has L q) ≡ (not b && has M q)
    by q true e = refl
    by q false e = same q e

pub new-more : (K L M : Held) (p : ReplicaId) (m : Marks) → has K p ≡ false → has L p ≡ false → ((q : ReplicaId) → has K q ≡ false → has M q ≡ (tie q p || has L q)) → new_replicas K M ≡ new_replicas K L + 1
new-more K L M p m not_k not_l more =
    new-is K M
    ∙ len-same (apart_from K M) (insert (apart_from K L) p m) (λ q.
    has-kept M (λ k. not (has K k)) q ∙ by q (has K q) refl
    ∙ sym (ap is_some (get-insert (apart_from K L) p m q) ∙ some_cond (tie q p) (get (apart_from K L) q) ∙ ap (λ x. tie q p || x) (has-kept L (λ k. not (has K k)) q)))
    ∙ len-put_new (apart_from K L) p m (not_there (get (apart_from K L) p) (has-kept L (λ k. not (has K k)) p ∙ ap (λ x. not (has K p) && x) not_l ∙ and-false (not (has K p))))
    ∙ ap (λ n. n + 1) (sym (new-is K L))
  where
    some_cond : (t : Bool) (z : Option Marks) → is_some (cond t (Some m) z) ≡ (t || is_some z)
    some_cond true z = refl
    some_cond false z = refl

    by : (q : ReplicaId) (b : Bool) → has K q ≡ b → (not b && has M q) ≡ (tie q p || (not b && has L q))
    by q true e = sym (not_tied (tie q p) refl)
      where
        not_tied : (t : Bool) → tie q p ≡ t → (t || false) ≡ false
        not_tied true is = absurd (false≢true (sym not_k ∙ sym (ap (has K) (tied q p is)) ∙ e))
        not_tied false is = refl
    by q false e = more q e

-- the new entries and the old ones
parts : (K L : Held) → len (apart_from K L) + len (keep L (λ q _. has K q)) ≡ len L
unfolding len
parts K L =
    (λ i. length (entries-keep by_replica L (λ q _. not (has K q)) i) + length (entries-keep by_replica L (λ q _. has K q) i)) ∙ both_parts (λ e. has K e.0) (entries L)

pub came_and_went : (K L : Held) → len K + new_replicas K L ≡ len L + new_replicas L K
came_and_went K L =
    let common : len (keep L (λ q _. has K q)) ≡ len (keep K (λ q _. has L q)) =
    len-same (keep L (λ q _. has K q)) (keep K (λ q _. has L q)) (λ q. has-kept L (has K) q ∙ and_comm (has K q) (has L q) ∙ sym (has-kept K (has L) q)) in
    let k = parts K L in
    let l = parts L K in
    let a = new-is K L in
    let b = new-is L K in
    omega (arith, common, k, l, a, b)

-- Entered blocks.

pub has-entered : (C : Cluster) (K : Held) (p : ReplicaId) (m : Marks) (q : ReplicaId) → has (entered_at C K p m) q ≡ (tie q p || (not (replaces C p q) && has K q))
has-entered C K p m q = ap is_some (get-entered_at C K p m q) ∙ by (tie q p) (replaces C p q) (get K q)
  where
    by : (t r : Bool) (z : Option Marks) → is_some (cond t (Some m) (cond (not r) z None)) ≡ (t || (not r && is_some z))
    by true r z = refl
    by false true z = refl
    by false false z = refl

module _ (C : Cluster) (B : Map by_number BlockInfo) (s : ℕ) (K : Held) where
  -- no replica on s has left, and none elsewhere has come
  abbrev pub IsBetween : Held → Type 0
  IsBetween L = ((q : ReplicaId) → q.storage ≡ s → has K q ≡ true → has L q ≡ true) × ((q : ReplicaId) → q.storage ≢ s → has L q ≡ true → has K q ≡ true)

  kept_unless : (L : Held) → IsBetween L → (b : ℕ) (q : ReplicaId) → has K q ≡ false → (not (replaces C (replica_at b s) q) && has L q) ≡ has L q
  kept_unless L between b q out = by (replaces C (replica_at b s) q) (has L q) refl refl
    where
      by : (r h : Bool) → replaces C (replica_at b s) q ≡ r → has L q ≡ h → (not r && h) ≡ h
      by true true e f = absurd (false≢true (sym out ∙ between.1 q (siblings_apart C s q.storage (is_replaced C (replica_at b s) q e).1) f))
      by true false e f = refl
      by false h e f = refl

  has_one : (L : Held) → IsBetween L → (n : ReportedSlot) (q : ReplicaId) → has K q ≡ false → has (entered_one C B s n L) q ≡ (tie q (replica_at n.id s) || has L q)
  has_one L between n q out =
      ap (λ M. has M q) (entered_one_is C B s n L) ∙ has-entered C L (replica_at n.id s) _ q ∙ ap (λ x. tie q (replica_at n.id s) || x) (kept_unless L between n.id q out)

  between_one : (L : Held) → IsBetween L → (n : ReportedSlot) → IsBetween (entered_one C B s n L)
  between_one L between n = (
    λ q own in_k.
        ap (λ M. has M q) (entered_one_is C B s n L) ∙ has-entered C L (replica_at n.id s) _ q
        ∙ stays (tie q (replica_at n.id s)) (replaces C (replica_at n.id s) q) (has L q) (between.0 q own in_k) (not_replaced q own (replaces C (replica_at n.id s) q) refl),
    λ q other in_l. between.1 q other (was (tie q (replica_at n.id s)) (replaces C (replica_at n.id s) q) (has L q) (untied q other (tie q (replica_at n.id s)) refl)
        (sym (ap (λ M. has M q) (entered_one_is C B s n L) ∙ has-entered C L (replica_at n.id s) _ q) ∙ in_l)),
  )
    where
      stays : (t r h : Bool) → h ≡ true → r ≡ false → (t || (not r && h)) ≡ true
      stays true r h e f = refl
      stays false true h e f = cc
      stays false false h e f = e

      not_replaced : (q : ReplicaId) → q.storage ≡ s → (r : Bool) → replaces C (replica_at n.id s) q ≡ r → r ≡ false
      not_replaced q own true e = absurd (siblings_apart C s q.storage (is_replaced C (replica_at n.id s) q e).1 own)
      not_replaced q own false e = refl

      untied : (q : ReplicaId) → q.storage ≢ s → (t : Bool) → tie q (replica_at n.id s) ≡ t → t ≡ false
      untied q other true e = absurd (other (ap (λ (k : ReplicaId). k.storage) (tied q (replica_at n.id s) e)))
      untied q other false e = refl

      was : (t r h : Bool) → t ≡ false → (t || (not r && h)) ≡ true → h ≡ true
      was true r h e f = cc
      was false true h e f = cc
      was false false h e f = f

  pub fresh-new : (ns : List ReportedSlot) (L : Held) → IsBetween L → new_replicas K (entered_all C B s ns L) ≡ new_replicas K L + fresh C B s ns L
  fresh-new [] L between = omega arith
  fresh-new (n ∷ ns) L between =
      let rest = fresh-new ns (entered_one C B s n L) (between_one L between n) in
      let one = step (has L (replica_at n.id s)) refl in
      omega (arith, rest, one)
    where
      step : (b : Bool) → has L (replica_at n.id s) ≡ b → new_replicas K (entered_one C B s n L) ≡ new_replicas K L + cond b 0 1
      step true e =
          let same = new-same K (entered_one C B s n L) L (λ q out. has_one L between n q out ∙ there q (tie q (replica_at n.id s)) refl) in
          omega (arith, same)
        where
          there : (q : ReplicaId) (t : Bool) → tie q (replica_at n.id s) ≡ t → (t || has L q) ≡ has L q
          there q true is = sym (ap (has L) (tied q (replica_at n.id s) is) ∙ e)
          there q false is = refl
      step false e = new-more K L (entered_one C B s n L) (replica_at n.id s) (record { tag = Good; excess = false; ordered = false }) (not_in (has K (replica_at n.id s)) refl) e (λ q out. has_one L between n q out)
        where
          not_in : (b : Bool) → has K (replica_at n.id s) ≡ b → b ≡ false
          not_in true f = absurd (false≢true (sym e ∙ between.0 (replica_at n.id s) refl f))
          not_in false f = refl

  -- the sweep, and then the drop of invalid excess
  module _ (ns : List ReportedSlot) (bs : List ℕ) (named_stay : (b : ℕ) → is_some (last_stamp ns b) ≡ true → list_any (λ k. k == b) bs ≡ false) where
    abbrev entered_then : Held
    entered_then = entered_all C B s ns K

    has_invalid_excess_out : (q : ReplicaId) → has (invalid_excess_out_all s ns (out_all s bs entered_then)) q ≡ has (out_all s bs entered_then) q
    has_invalid_excess_out q = ap is_some (invalid_excess_out_all-at s ns (out_all s bs entered_then) q) ∙ by ((q.storage == s) && is_some (last_stamp ns q.block)) (get (out_all s bs entered_then) q)
      where
        by : (b : Bool) (z : Option Marks) → is_some (cond b (option_map without_invalid_excess z) z) ≡ is_some z
        by true None = refl
        by true (Some x) = refl
        by false z = refl

    pub len-invalid_excess_out : len (invalid_excess_out_all s ns (out_all s bs entered_then)) ≡ len (out_all s bs entered_then)
    len-invalid_excess_out = len-same (invalid_excess_out_all s ns (out_all s bs entered_then)) (out_all s bs entered_then) has_invalid_excess_out

    has_out : (q : ReplicaId) → has K q ≡ false → has (out_all s bs entered_then) q ≡ has entered_then q
    has_out q out = ap is_some (out-at s bs entered_then q) ∙ by ((q.storage == s) && list_any (λ b. b == q.block) bs) refl
      where
        was_out : (q.storage == s) ≡ true → list_any (λ b. b == q.block) bs ≡ true → (o : Option Stamp) → last_stamp ns q.block ≡ o → has entered_then q ≡ false
        was_out own gone None e = ap is_some (entered-own C B s ns K q own) ∙ ap (λ o. is_some (option_map_or (λ st. Some (marks_during_report (get B q.block) (get K q) st)) o (get K q))) e ∙ out
        was_out own gone (Some st) e = absurd (false≢true (sym (named_stay q.block (ap is_some e)) ∙ gone))

        by : (b : Bool) → ((q.storage == s) && list_any (λ b. b == q.block) bs) ≡ b → is_some (cond b None (get entered_then q)) ≡ has entered_then q
        by true e = let two = and_parts (q.storage == s) (list_any (λ b. b == q.block) bs) e in sym (was_out two.0 two.1 (last_stamp ns q.block) refl)
        by false e = refl

    none_new_yet : new_replicas K K ≡ 0
    unfolding new_replicas
    none_new_yet = none_new K K (λ q x e. ap is_some e)

    pub came : new_replicas K (invalid_excess_out_all s ns (out_all s bs entered_then)) ≡ fresh C B s ns K
    came =
        let same = new-same K (invalid_excess_out_all s ns (out_all s bs entered_then)) entered_then (λ q out. has_invalid_excess_out q ∙ has_out q out) in
        let all = fresh-new ns K (λ q own h. h, λ q other h. h) in
        let none = none_new_yet in
        omega (arith, same, all, none)
