-- Requested copies ascend by level and block, and so do the transfers that are chosen for them.
use Rattle.std.specs.Prelude.{◌≡◌, ℕ, zero, suc, ◌≤◌, ◌<◌, ◌⊎◌, Bool, true, false, if◌then◌else◌, List, [], ◌∷◌, ◌++◌, map, flat_map, replicate, Option, Some, None, option_to_list, T}
use Rattle.std.specs.Option.{option_map_or}
use Rattle.std.specs.Ordering.{nat_cmp}
use Rattle.std.specs.FinMap.{is_sorted}
use Rattle.std.specs.FinMap.Entries.{below_all}
use Rattle.std.proofs.Common.{refl, sym, ap, subst, ◌∙◌, arith, inl, inr, append-nil}
use Rattle.bm_base.specs.Maps.Conjunction.{first, second}
use Rattle.bm_base.specs.declared.replica.Level.{Level}
use Rattle.bm_base.specs.declared.replica.Level.TheVariants.{Highest, VeryUnderReplicated, UnderReplicated, BadlyDistributed}
use Rattle.bm_base.specs.declared.replica.BlockInfo.{BlockInfo}
use Rattle.bm_base.specs.declared.commands.Transfer.{Transfer}
use Rattle.bm_base.specs.Words.{Map, by_number, get, keys, entries, RoundLimits, Cluster, Holdings, State, level, level_number, is_at, state_after_expiry, state_at_choice, RequestedCopy, requested_count, wishes_for, wishes, transfer_for, transfers_from, transfers}
use Rattle.bm_base.specs.Promises.NextRound.{transfers_chosen}
use Rattle.std.proofs.lemmas.Option.{same_Some}
use Rattle.bm_base.proofs.ForEach.{Each, each_of, each_appended, each_then, each_flat_map}
use Rattle.bm_base.proofs.Orderings.{less_number}
use Rattle.laws_of_rounds.proofs.ChosenTransfers.{EachAfter, after_push, after_split, IsOfLevel, each_wish, each_replicate}
use Rattle.laws_of_rounds.proofs.NextRounds.{each_at}
use Rattle.laws_of_rounds.proofs.RequestedCopies.{of_wish}

-- a requested copy is served before another
abbrev IsBefore : RequestedCopy → RequestedCopy → Type 0
IsBefore w v = (level_number w.urgency < level_number v.urgency) ⊎ ((w.urgency ≡ v.urgency) × (w.block ≤ v.block))

-- each item of a list is before all later ones
abbrev Ascends : {X : Type 0} → (X → X → Type 0) → List X → Type 0
Ascends R [] = Unit {0}
Ascends R (x ∷ xs) = Each (R x) xs × Ascends R xs

module _ {X : Type 0} (R : X → X → Type 0) where
  ascends_append : (xs ys : List X) → Ascends R xs → Ascends R ys → Each (λ x. Each (R x) ys) xs → Ascends R (xs ++ ys)
  ascends_append [] ys h k all = k
  ascends_append (x ∷ xs) ys h k all = (each_appended (R x) xs ys h.0 all.0, ascends_append xs ys h.1 k all.1)

  ascends_replicate : (n : ℕ) (x : X) → R x x → Ascends R (replicate n x)
  ascends_replicate zero x h = tt
  ascends_replicate (suc n) x h = (each_replicate (R x) n x h, ascends_replicate n x h)

-- Keys are ascending.

below_each : {X : Type 0} (k : ℕ) (es : List (ℕ × X)) → T (below_all nat_cmp k es) → Each (λ n. k < n) (map (λ e. e.0) es)
below_each k [] h = tt
below_each k (e ∷ es) h = (less_number k e.0 (first _ _ h), below_each k es (second _ _ h))

ascending : {X : Type 0} (es : List (ℕ × X)) → T (is_sorted nat_cmp es) → Ascends (λ k n. k < n) (map (λ e. e.0) es)
ascending [] h = tt
ascending (e ∷ es) h = (below_each e.0 es (first _ _ h), ascending es (second _ _ h))

keys_ascend : {X : Type 0} (m : Map by_number X) → Ascends (λ k n. k < n) (keys m)
unfolding keys entries
keys_ascend m = ascending m.list m.sorted

-- Requested copies are ascending.

abbrev IsFor : Level → ℕ → RequestedCopy → Type 0
IsFor urgency b w = (w.urgency ≡ urgency) × (w.block ≡ b)

module _ (C : Cluster) (H : Holdings) where
  for_if : (urgency : Level) (b : ℕ) (t : Bool) (o : Option BlockInfo)
      → Each (IsFor urgency b) (if t then option_map_or (λ i. replicate (requested_count C H urgency i.repl b) (record { urgency = urgency; block = b })) o [] else [])
  for_if urgency b true None = tt
  for_if urgency b true (Some i) = each_replicate (IsFor urgency b) (requested_count C H urgency i.repl b) (record { urgency = urgency; block = b }) (refl, refl)
  for_if urgency b false o = tt

  each_for : (urgency : Level) (b : ℕ) → Each (IsFor urgency b) (wishes_for C H urgency b)
  unfolding wishes_for
  each_for urgency b = for_if urgency b (is_at urgency (level C H b)) (get H.blocks b)

  ascends_if : (urgency : Level) (b : ℕ) (t : Bool) (o : Option BlockInfo)
      → Ascends IsBefore (if t then option_map_or (λ i. replicate (requested_count C H urgency i.repl b) (record { urgency = urgency; block = b })) o [] else [])
  ascends_if urgency b true None = tt
  ascends_if urgency b true (Some i) = ascends_replicate IsBefore (requested_count C H urgency i.repl b) (record { urgency = urgency; block = b }) (inr (refl, omega arith))
  ascends_if urgency b false o = tt

  ascends_for : (urgency : Level) (b : ℕ) → Ascends IsBefore (wishes_for C H urgency b)
  unfolding wishes_for
  ascends_for urgency b = ascends_if urgency b (is_at urgency (level C H b)) (get H.blocks b)

  -- a copy of a block is requested before those of greater blocks
  before_greater : (urgency : Level) (b n : ℕ) (w : RequestedCopy) → b < n → IsFor urgency b w → Each (IsBefore w) (wishes_for C H urgency n)
  before_greater urgency b n w lt is =
      each_then (IsFor urgency n) (IsBefore w) (wishes_for C H urgency n) (each_for urgency n) (λ v h. let e = is.1 in let f = h.1 in inr (is.0 ∙ sym h.0, omega (arith, lt, e, f)))

  ascends_at : (urgency : Level) (ks : List ℕ) → Ascends (λ k n. k < n) ks → Ascends IsBefore (flat_map (wishes_for C H urgency) ks)
  ascends_at urgency [] h = tt
  ascends_at urgency (b ∷ ks) h =
      ascends_append IsBefore (wishes_for C H urgency b) (flat_map (wishes_for C H urgency) ks) (ascends_for urgency b) (ascends_at urgency ks h.1)
      (each_then (IsFor urgency b) (λ w. Each (IsBefore w) (flat_map (wishes_for C H urgency) ks)) (wishes_for C H urgency b) (each_for urgency b) (λ w is. each_flat_map (λ n. b < n) (IsBefore w) (wishes_for C H urgency) (λ n lt. before_greater urgency b n w lt is) ks h.0))

  abbrev at : Level → List RequestedCopy
  at urgency = flat_map (wishes_for C H urgency) (keys H.blocks)

  each_urgency : (urgency : Level) → Each (λ w. w.urgency ≡ urgency) (at urgency)
  each_urgency urgency =
      each_flat_map (λ _. Unit {0}) (λ w. w.urgency ≡ urgency) (wishes_for C H urgency)
      (λ b _. each_then (IsFor urgency b) (λ w. w.urgency ≡ urgency) (wishes_for C H urgency b) (each_for urgency b) (λ w h. h.0)) (keys H.blocks) (each_of (λ _. Unit {0}) (keys H.blocks) (λ _. tt))

  lower_before : (l k : Level) → level_number l < level_number k → (w v : RequestedCopy) → w.urgency ≡ l → v.urgency ≡ k → IsBefore w v
  lower_before l k lt w v e f =
      inl (subst (λ z. level_number w.urgency < level_number z) (sym f) (subst (λ z. level_number z < level_number k) (sym e) lt))

  -- levels one after another, in ascending order of their numbers
  levels_ascend : (ls : List Level) → Ascends (λ l k. level_number l < level_number k) ls → Ascends IsBefore (flat_map at ls)
  levels_ascend [] h = tt
  levels_ascend (l ∷ ls) h =
      ascends_append IsBefore (at l) (flat_map at ls) (ascends_at l (keys H.blocks) (keys_ascend H.blocks)) (levels_ascend ls h.1)
      (each_then (λ w. w.urgency ≡ l) (λ w. Each (IsBefore w) (flat_map at ls)) (at l) (each_urgency l) (λ w e. each_flat_map (λ k. level_number l < level_number k) (IsBefore w) at (λ k lt. each_then (λ v. v.urgency ≡ k) (IsBefore w) (at k) (each_urgency k) (λ v f. lower_before l k lt w v e f)) ls h.0))

  wishes_ascend : Ascends IsBefore (wishes C H)
  unfolding wishes
  wishes_ascend =
      levels_ascend (Highest ∷ VeryUnderReplicated ∷ UnderReplicated ∷ BadlyDistributed ∷ [])
      ((omega arith, (omega arith, (omega arith, tt))), ((omega arith, (omega arith, tt)), ((omega arith, tt), (tt, tt))))

  -- Transfers.

  -- a transfer was chosen for a requested copy that is served before this one
  abbrev IsServedBefore : RequestedCopy → Transfer → Type 0
  IsServedBefore v t = (w : RequestedCopy) × (t.block ≡ w.block) × IsOfLevel C H w × IsBefore w v

  -- the transfers chosen before one are for requested copies served before that of its block
  abbrev IsInOrder : List Transfer → Transfer → Type 0
  IsInOrder front u = (v : RequestedCopy) × (u.block ≡ v.block) × IsOfLevel C H v × Each (IsServedBefore v) front

  module _ (limits : RoundLimits) where
    order_pushed : (front : List Transfer) (w : RequestedCopy) (o : Option Transfer) → ((t : Transfer) → o ≡ Some t → t.block ≡ w.block) → IsOfLevel C H w → Each (IsServedBefore w) front
        → EachAfter IsInOrder [] front → EachAfter IsInOrder [] (front ++ option_to_list o)
    order_pushed front w None same of_level before h = subst (EachAfter IsInOrder []) (sym (append-nil front)) h
    order_pushed front w (Some t) same of_level before h = after_push IsInOrder [] front t h (w, same t refl, of_level, before)

    served_pushed : (front : List Transfer) (w v : RequestedCopy) (o : Option Transfer) → ((t : Transfer) → o ≡ Some t → t.block ≡ w.block) → IsOfLevel C H w → IsBefore w v
        → Each (IsServedBefore v) front → Each (IsServedBefore v) (front ++ option_to_list o)
    served_pushed front w v None same of_level lt h = subst (Each (IsServedBefore v)) (sym (append-nil front)) h
    served_pushed front w v (Some t) same of_level lt h = each_appended (IsServedBefore v) front (t ∷ []) h ((w, same t refl, of_level, lt), tt)

    served_all : (front : List Transfer) (w : RequestedCopy) (o : Option Transfer) → ((t : Transfer) → o ≡ Some t → t.block ≡ w.block) → IsOfLevel C H w → (ws : List RequestedCopy) → Each (IsBefore w) ws
        → Each (λ v. Each (IsServedBefore v) front) ws → Each (λ v. Each (IsServedBefore v) (front ++ option_to_list o)) ws
    served_all front w o same of_level [] lt h = tt
    served_all front w o same of_level (v ∷ ws) lt h = (served_pushed front w v o same of_level lt.0 h.0, served_all front w o same of_level ws lt.1 h.1)

    in_order : (front : List Transfer) (ws : List RequestedCopy) → Ascends IsBefore ws → Each (IsOfLevel C H) ws → Each (λ v. Each (IsServedBefore v) front) ws → EachAfter IsInOrder [] front
        → EachAfter IsInOrder [] (transfers_from limits C H front ws)
    in_order front [] rise at_level before h = h
    in_order front (w ∷ ws) rise at_level before h =
        in_order (front ++ option_to_list (transfer_for limits C H front w)) ws rise.1 at_level.1
        (served_all front w (transfer_for limits C H front w) (of_wish limits C H w.block front w) at_level.0 ws rise.0 before.1)
        (order_pushed front w (transfer_for limits C H front w) (of_wish limits C H w.block front w) at_level.0 before.0 h)

    pub all_in_order : EachAfter IsInOrder [] (transfers limits C H)
    unfolding transfers
    all_in_order = in_order [] (wishes C H) wishes_ascend (each_wish C H) (each_of (λ v. Unit {0}) (wishes C H) (λ _. tt)) tt

  of_order : (t u : Transfer) (l k : Level) (v : RequestedCopy) → level C H t.block ≡ Some l → level C H u.block ≡ Some k → u.block ≡ v.block → IsOfLevel C H v → IsServedBefore v t
      → (level_number l < level_number k) ⊎ ((l ≡ k) × (t.block ≤ u.block))
  of_order t u l k v at_l at_k same at_v served =
      let w : RequestedCopy = served.0 in
      let is_l : w.urgency ≡ l = same_Some w.urgency l (sym served.2 ∙ ap (level C H) (sym served.1) ∙ at_l) in
      let is_k : v.urgency ≡ k = same_Some v.urgency k (sym at_v ∙ ap (level C H) (sym same) ∙ at_k) in
      by_case w is_l is_k served.1 served.3
    where
      by_case : (w : RequestedCopy) → w.urgency ≡ l → v.urgency ≡ k → t.block ≡ w.block → IsBefore w v → (level_number l < level_number k) ⊎ ((l ≡ k) × (t.block ≤ u.block))
      by_case w e f g (inl lt) = inl (subst (λ z. level_number z < level_number k) e (subst (λ z. level_number w.urgency < level_number z) f lt))
      by_case w e f g (inr h) = let le = h.1 in inr (sym e ∙ h.0 ∙ f, omega (arith, g, same, le))

order_of : (M : State) → EachAfter (IsInOrder M.cluster (state_at_choice M).holdings) [] (transfers_chosen M)
unfolding state_at_choice state_after_expiry
order_of M = all_in_order M.cluster (state_at_choice M).holdings M.limits

split_again : (front middle back : List Transfer) (t u : Transfer) → front ++ t ∷ (middle ++ u ∷ back) ≡ (front ++ t ∷ middle) ++ u ∷ back
split_again [] middle back t u = refl
split_again (x ∷ front) middle back t u = ap (λ ts. x ∷ ts) (split_again front middle back t u)

pub urgent_first : (M : State) (front middle back : List Transfer) (t u : Transfer) (l k : Level) → transfers_chosen M ≡ front ++ t ∷ (middle ++ u ∷ back)
    → level M.cluster (state_at_choice M).holdings t.block ≡ Some l → level M.cluster (state_at_choice M).holdings u.block ≡ Some k
    → (level_number l < level_number k) ⊎ ((l ≡ k) × (t.block ≤ u.block))
urgent_first M front middle back t u l k is at_l at_k =
    let order = after_split (IsInOrder M.cluster (state_at_choice M).holdings) (transfers_chosen M) (front ++ t ∷ middle) back u (order_of M) (is ∙ split_again front middle back t u) in
    of_order M.cluster (state_at_choice M).holdings t u l k order.0 at_l at_k order.1 order.2 (each_at (IsServedBefore M.cluster (state_at_choice M).holdings order.0) front middle t order.3)
