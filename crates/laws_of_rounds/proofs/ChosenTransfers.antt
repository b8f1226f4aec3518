-- Each transfer follows the rules of choice, given the transfers chosen before it.
use Rattle.std.specs.Prelude.{◌≡◌, ℕ, zero, suc, ◌*◌, ◌<◌, Bool, true, false, nat_lt, nat_le, if◌then◌else◌, List, [], ◌∷◌, ◌++◌, filter, flat_map, length, replicate, Option, Some, None, is_some, option_map, option_and_then, option_to_list}
use Rattle.std.specs.Option.{option_map_or}
use Rattle.std.specs.declared.cmp.Ordering.{Ordering}
use Rattle.std.proofs.Common.{refl, sym, ap, subst, ◌∙◌, append_assoc, append-nil}
use Rattle.std.proofs.lemmas.Bool.{ltb-true, leb-false, false≢true}
use Rattle.bm_base.specs.declared.replica.Level.{Level}
use Rattle.bm_base.specs.declared.replica.Level.TheVariants.{Highest, VeryUnderReplicated, UnderReplicated, BadlyDistributed}
use Rattle.bm_base.specs.declared.replica.BlockInfo.{BlockInfo}
use Rattle.bm_base.specs.declared.commands.Transfer.{Transfer}
use Rattle.bm_base.specs.Words.{get, keys, len, RoundLimits, Cluster, Holdings, has, least, sources_of, is_draining, level, is_at, RequestedCopy, requested_count, wishes_for, wishes, streams_from, stream_limit, source_cmp, least_source_by, least_source, holders_of, excluded_for, target_cmp, is_target, least_target_by, least_target, scheduled_to, transfer_for, transfers_from, transfers}
use Rattle.std.proofs.lemmas.Option.{same_Some}
use Rattle.bm_base.proofs.AtLevel.{at_level}
use Rattle.bm_base.proofs.ForEach.{Each, each_of, each_flat_map}
use Rattle.bm_base.proofs.ListTests.{has_filter, and_first, and_second}
use Rattle.laws_of_states.proofs.Surpluses.{least_among}

-- P holds of each element, given those before it
abbrev pub EachAfter : {X : Type 0} → (List X → X → Type 0) → List X → List X → Type 0
EachAfter P front [] = Unit {0}
EachAfter P front (x ∷ xs) = P front x × EachAfter P (front ++ x ∷ []) xs

module _ {X : Type 0} (P : List X → X → Type 0) where
  pub after_push : (front xs : List X) (x : X) → EachAfter P front xs → P (front ++ xs) x → EachAfter P front (xs ++ x ∷ [])
  after_push front [] x h p = (subst (λ ys. P ys x) (append-nil front) p, tt)
  after_push front (y ∷ xs) x h p = (h.0, after_push (front ++ y ∷ []) xs x h.1 (subst (λ ys. P ys x) (sym (append_assoc front (y ∷ []) xs)) p))

  pub after_at : (front xs ys : List X) (x : X) → EachAfter P front (xs ++ x ∷ ys) → P (front ++ xs) x
  after_at front [] ys x h = subst (λ zs. P zs x) (sym (append-nil front)) h.0
  after_at front (z ∷ xs) ys x h = subst (λ zs. P zs x) (append_assoc front (z ∷ []) xs) (after_at (front ++ z ∷ []) xs ys x h.1)

  -- P holds of each element, at its position in the list
  pub after_split : (xs front back : List X) (x : X) → EachAfter P [] xs → xs ≡ front ++ x ∷ back → P front x
  after_split xs front back x h is = after_at [] front back x (subst (EachAfter P []) is h)

module _ {X : Type 0} where
  -- Q holds of the whole list if no element breaks it
  pub after_whole : (P : List X → X → Type 0) (Q : List X → Type 0) → ((ys : List X) (y : X) → Q ys → P ys y → Q (ys ++ y ∷ [])) → (front xs : List X) → Q front → EachAfter P front xs → Q (front ++ xs)
  after_whole P Q f front [] q h = subst Q (sym (append-nil front)) q
  after_whole P Q f front (x ∷ xs) q h = subst Q (append_assoc front (x ∷ []) xs) (after_whole P Q f (front ++ x ∷ []) xs (f front x q h.0) h.1)

-- A requested copy is of a block at its level.

abbrev pub IsOfLevel : Cluster → Holdings → RequestedCopy → Type 0
IsOfLevel C H w = level C H w.block ≡ Some w.urgency

pub each_replicate : {X : Type 0} (P : X → Type 0) (n : ℕ) (x : X) → P x → Each P (replicate n x)
each_replicate P zero x p = tt
each_replicate P (suc n) x p = (p, each_replicate P n x p)

module _ (C : Cluster) (H : Holdings) where
  wished_if : (b : ℕ) (urgency : Level) (t : Bool) (o : Option BlockInfo) → is_at urgency (level C H b) ≡ t
      → Each (IsOfLevel C H) (if t then option_map_or (λ i. replicate (requested_count C H urgency i.repl b) (record { urgency = urgency; block = b })) o [] else [])
  wished_if b urgency true None e = tt
  wished_if b urgency true (Some i) e = each_replicate (IsOfLevel C H) (requested_count C H urgency i.repl b) (record { urgency = urgency; block = b }) (at_level urgency (level C H b) e)
  wished_if b urgency false o e = tt

  wished_for : (urgency : Level) (b : ℕ) → Each (IsOfLevel C H) (wishes_for C H urgency b)
  unfolding wishes_for
  wished_for urgency b = wished_if b urgency (is_at urgency (level C H b)) (get H.blocks b) refl

  pub each_wish : Each (IsOfLevel C H) (wishes C H)
  unfolding wishes
  each_wish =
      each_flat_map (λ _. Unit {0}) (IsOfLevel C H) (λ urgency. flat_map (wishes_for C H urgency) (keys H.blocks))
      (λ urgency _. each_flat_map (λ _. Unit {0}) (IsOfLevel C H) (wishes_for C H urgency) (λ b _. wished_for urgency b) (keys H.blocks) (each_of (λ _. Unit {0}) (keys H.blocks) (λ _. tt)))
      (Highest ∷ VeryUnderReplicated ∷ UnderReplicated ∷ BadlyDistributed ∷ []) (tt, (tt, (tt, (tt, tt))))

-- Why a transfer was chosen, after those of `front`.
pub record IsChosenAfter (limits : RoundLimits) (C : Cluster) (H : Holdings) (front : List Transfer) (t : Transfer) : Type 0 where
  pub few : length front < limits.work * len C.nodes
  pub urgency : Level
  pub at_level : level C H t.block ≡ Some urgency
  pub info : BlockInfo
  pub known : get H.blocks t.block ≡ Some info
  pub stamp : t.stamp ≡ info.stamp
  pub source : least_source C front urgency (sources_of C H t.block) ≡ Some t.source
  pub target : least_target C front (record { urgency = urgency; holders = holders_of C H front t.block; excluded = excluded_for H front t.block; len = info.stamp.len }) ≡ Some t.target

module _ (limits : RoundLimits) (C : Cluster) (H : Holdings) where
  of_some : (front : List Transfer) (w : RequestedCopy) (t : Transfer) → transfer_for limits C H front w ≡ Some t → IsOfLevel C H w → IsChosenAfter limits C H front t
  unfolding transfer_for
  of_some front w t is at =
      by_limit (nat_le (limits.work * len C.nodes) (length front)) refl (get H.blocks w.block) refl is
    where
      chosen : (i : BlockInfo) → length front < limits.work * len C.nodes → get H.blocks w.block ≡ Some i
          → (s u : ℕ) → least_source C front w.urgency (sources_of C H w.block) ≡ Some s → least_target C front (record { urgency = w.urgency; holders = holders_of C H front w.block; excluded = excluded_for H front w.block; len = i.stamp.len }) ≡ Some u
          → record { block = w.block; stamp = i.stamp; source = s; target = u } ≡ t → IsChosenAfter limits C H front t
      chosen i few known s u from to same =
          subst (IsChosenAfter limits C H front) same (record { few = few; urgency = w.urgency; at_level = at; info = i; known = known; stamp = refl; source = from; target = to })

      by_target : (i : BlockInfo) → length front < limits.work * len C.nodes → get H.blocks w.block ≡ Some i → (s : ℕ) → least_source C front w.urgency (sources_of C H w.block) ≡ Some s
          → (o : Option ℕ) → least_target C front (record { urgency = w.urgency; holders = holders_of C H front w.block; excluded = excluded_for H front w.block; len = i.stamp.len }) ≡ o
          → option_map (λ u. record { block = w.block; stamp = i.stamp; source = s; target = u }) o ≡ Some t → IsChosenAfter limits C H front t
      by_target i few known s from None to e = absurd (false≢true (ap is_some e))
      by_target i few known s from (Some u) to e = chosen i few known s u from to (same_Some (record { block = w.block; stamp = i.stamp; source = s; target = u }) t e)

      by_source : (i : BlockInfo) → length front < limits.work * len C.nodes → get H.blocks w.block ≡ Some i
          → (o : Option ℕ) → least_source C front w.urgency (sources_of C H w.block) ≡ o
          → option_and_then (λ s. option_map (λ u. record { block = w.block; stamp = i.stamp; source = s; target = u }) (least_target C front (record { urgency = w.urgency; holders = holders_of C H front w.block; excluded = excluded_for H front w.block; len = i.stamp.len }))) o ≡ Some t
          → IsChosenAfter limits C H front t
      by_source i few known None from e = absurd (false≢true (ap is_some e))
      by_source i few known (Some s) from e = by_target i few known s from (least_target C front (record { urgency = w.urgency; holders = holders_of C H front w.block; excluded = excluded_for H front w.block; len = i.stamp.len })) refl e

      by_limit : (full : Bool) → nat_le (limits.work * len C.nodes) (length front) ≡ full → (o : Option BlockInfo) → get H.blocks w.block ≡ o
          → (if full then None else option_and_then (λ i. option_and_then (λ s. option_map (λ u. record { block = w.block; stamp = i.stamp; source = s; target = u })
          (least_target C front (record { urgency = w.urgency; holders = holders_of C H front w.block; excluded = excluded_for H front w.block; len = i.stamp.len }))) (least_source C front w.urgency (sources_of C H w.block))) o) ≡ Some t
          → IsChosenAfter limits C H front t
      by_limit true full o is e = absurd (false≢true (ap is_some e))
      by_limit false full None is e = absurd (false≢true (ap is_some e))
      by_limit false full (Some i) is e =
          by_source i (leb-false (limits.work * len C.nodes) (length front) full) is (least_source C front w.urgency (sources_of C H w.block)) refl e

  pushed : (front : List Transfer) (w : RequestedCopy) (o : Option Transfer) → transfer_for limits C H front w ≡ o → IsOfLevel C H w
      → EachAfter (IsChosenAfter limits C H) [] front → EachAfter (IsChosenAfter limits C H) [] (front ++ option_to_list o)
  pushed front w None e at h = subst (EachAfter (IsChosenAfter limits C H) []) (sym (append-nil front)) h
  pushed front w (Some t) e at h = after_push (IsChosenAfter limits C H) [] front t h (of_some front w t e at)

  chosen_from : (front : List Transfer) (ws : List RequestedCopy) → Each (IsOfLevel C H) ws → EachAfter (IsChosenAfter limits C H) [] front
      → EachAfter (IsChosenAfter limits C H) [] (transfers_from limits C H front ws)
  chosen_from front [] at h = h
  chosen_from front (w ∷ ws) at h =
      chosen_from (front ++ option_to_list (transfer_for limits C H front w)) ws at.1 (pushed front w (transfer_for limits C H front w) refl at.0 h)

  pub each_chosen : EachAfter (IsChosenAfter limits C H) [] (transfers limits C H)
  unfolding transfers
  each_chosen = chosen_from [] (wishes C H) (each_wish C H) tt

-- What a choice implies for the source and the target.

-- the least of those that pass a test passes, and is one of them
pub least_passing : (R : ℕ → ℕ → Ordering) (p : ℕ → Bool) (xs : List ℕ) (x : ℕ) → least R (filter p xs) ≡ Some x → (p x ≡ true) × (has xs x ≡ true)
least_passing R p xs x e =
    let there = sym (has_filter p xs x) ∙ least_among R (filter p xs) x e in
    (and_first (p x) (has xs x) there, and_second (p x) (has xs x) there)

pub source_is : (C : Cluster) (front : List Transfer) (urgency : Level) (ss : List ℕ) (s : ℕ) → least_source C front urgency ss ≡ Some s
    → (streams_from C front s < stream_limit urgency (is_draining C s)) × (has ss s ≡ true)
unfolding least_source least_source_by
source_is C front urgency ss s e =
    let is = least_passing (source_cmp C (streams_from C front)) (λ z. nat_lt (streams_from C front z) (stream_limit urgency (is_draining C z))) ss s e in
    (ltb-true (streams_from C front s) (stream_limit urgency (is_draining C s)) is.0, is.1)

pub target_is : (C : Cluster) (front : List Transfer) (urgency : Level) (holders excluded : List ℕ) (n u : ℕ) → least_target C front (record { urgency = urgency; holders = holders; excluded = excluded; len = n }) ≡ Some u
    → (is_target C (scheduled_to front) (record { urgency = urgency; holders = holders; excluded = excluded; len = n }) u ≡ true) × (has (keys C.storages) u ≡ true)
unfolding least_target least_target_by
target_is C front urgency holders excluded n u e = least_passing (target_cmp C (scheduled_to front) holders) (is_target C (scheduled_to front) (record { urgency = urgency; holders = holders; excluded = excluded; len = n })) (keys C.storages) u e
