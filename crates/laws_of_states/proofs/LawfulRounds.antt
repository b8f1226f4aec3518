-- An accepted round keeps a lawful state lawful.
use Rattle.std.proofs.Common.{◌≡◌, ℕ, ◌+◌, ◌<◌, ◌≤◌, Bool, true, false, not, Some, None, List, map, is_some, refl, sym, ap, ◌∙◌, arith}
use Rattle.std.specs.Prelude.{if◌then◌else◌, nat_le, ◌-◌}
use Rattle.std.proofs.lemmas.Bool.{and_parts}
use Rattle.bm_base.specs.declared.replica.ReplicaId.{ReplicaId}
use Rattle.bm_base.specs.declared.replica.Marks.{Marks}
use Rattle.bm_base.specs.declared.commands.Transfer.{Transfer}
use Rattle.bm_base.specs.declared.commands.Delete.{Delete}
use Rattle.bm_base.specs.Words.{Map, get, revise, contains_key, Cluster, Holdings, State, by_replica, replica_at, has, is_good, is_stray, without_expired, without_unordered_excess, excess_in, with_surplus_marked, state_after_expiry, state_at_choice, transfers, deletes, is_commanded, end_round, whole_round, round_refusal, last_number, count_call}
use Rattle.bm_base.specs.Promises.Lawful.{IsLawful, IsOrderly, IsLawfulHoldings, HasFittingNumbers, IsCommandedByNow}
use Rattle.bm_base.proofs.Options.{there, is_there}
use Rattle.bm_base.proofs.ForEach.{Each, each_mapped, each_then}
use Rattle.bm_base.proofs.MapEntries.{Holds, get_kept, get_revised, known_revised, holds_insert_all}
use Rattle.bm_base.proofs.Checks.{round_accepted}
use Rattle.bm_parts.proofs.RemainingHoldings.{lawful_among, among_here}
use Rattle.bm_parts.proofs.ChosenCopies.{IsPlaced, in_excess_usable, each_placed}

-- Changed marks that keep the tags, and are in excess only if the replica is good.
module _ (C : Cluster) (H G : Holdings) (f : ReplicaId → Marks → Marks) (L : IsLawfulHoldings C H) (tags : (q : ReplicaId) (m : Marks) → (f q m).tag ≡ m.tag)
    (excess : (q : ReplicaId) (m : Marks) → get H.replicas q ≡ Some m → (f q m).excess ≡ true → is_good m.tag ≡ true) where
  remarked : G.replicas ≡ revise H.replicas f → G.blocks ≡ H.blocks → G.pending ≡ H.pending → IsLawfulHoldings C G
  remarked r b t =
      lawful_among C C H G L (among_here C H G (λ q e. sym (ap (λ m. contains_key m q) r ∙ known_revised H.replicas f q) ∙ e) (λ q e. sym (ap (λ m. contains_key m q) t) ∙ e))
      (record {
        strays = λ q m e. let was = get_revised H.replicas f q m (sym (ap (λ m. get m q) r) ∙ e) in
            ap (λ n. is_stray n.tag) (sym was.2) ∙ ap is_stray (tags q was.0) ∙ L.strays q was.0 was.1 ∙ ap (λ m. not (contains_key m q.block)) (sym b);
        excess_is_good = λ q m e h. let was = get_revised H.replicas f q m (sym (ap (λ m. get m q) r) ∙ e) in
            ap (λ n. is_good n.tag) (sym was.2) ∙ ap is_good (tags q was.0) ∙ excess q was.0 was.1 (ap (λ n. n.excess) was.2 ∙ h);
        pending_known = λ q e. ap (λ m. contains_key m q.block) b ∙ L.pending_known q (sym (ap (λ m. contains_key m q) t) ∙ e);
        replicated = λ c i e. L.replicated c i (sym (ap (λ m. get m c) b) ∙ e);
      })

-- The start of a round.

pub expired_lawful : (C : Cluster) (H : Holdings) (pend r : ℕ) → IsLawfulHoldings C H → IsLawfulHoldings C (without_expired pend r H)
unfolding without_expired
expired_lawful C H pend r L =
    let was : (q : ReplicaId) → is_some (get (without_expired pend r H).pending q) ≡ true → is_some (get H.pending q) ≡ true = λ q e.
    let x = there (get (without_expired pend r H).pending q) e in
    is_there (get H.pending q) x.0 (get_kept H.pending (λ _ t. not (nat_le pend (r - t))) q x.0 x.1).0 in
    lawful_among C C H (without_expired pend r H) L (among_here C H (without_expired pend r H) (λ _ e. e) was)
    (record { strays = L.strays; excess_is_good = L.excess_is_good; pending_known = λ q e. L.pending_known q (was q e); replicated = L.replicated })

pub cleared_tag : (b : Bool) (m : Marks) → (if b then m else record m { excess = false }).tag ≡ m.tag
cleared_tag true m = refl
cleared_tag false m = refl

pub cleared_excess : (b : Bool) (m : Marks) → (if b then m else record m { excess = false }).excess ≡ true → m.excess ≡ true
cleared_excess true m e = e
cleared_excess false m e = cc

cleared_lawful : (C : Cluster) (H : Holdings) → IsLawfulHoldings C H → IsLawfulHoldings C (without_unordered_excess H)
unfolding without_unordered_excess
cleared_lawful C H L =
    remarked C H (without_unordered_excess H) (λ _ m. if m.ordered then m else record m { excess = false }) L (λ q m. cleared_tag m.ordered m)
    (λ q m e h. L.excess_is_good q m e (cleared_excess m.ordered m h)) refl refl refl

pub marked_tag : (b : Bool) (m : Marks) → (if b then record m { excess = true } else m).tag ≡ m.tag
marked_tag true m = refl
marked_tag false m = refl

marked_excess : (P : Type 0) (b : Bool) (m : Marks) → (b ≡ true → P) → (m.excess ≡ true → P) → (if b then record m { excess = true } else m).excess ≡ true → P
marked_excess P true m h g e = h refl
marked_excess P false m h g e = g e

marked_lawful : (C : Cluster) (H : Holdings) → IsLawfulHoldings C H → IsLawfulHoldings C (with_surplus_marked C H)
unfolding with_surplus_marked
marked_lawful C H L =
    remarked C H (with_surplus_marked C H) (λ q m. if has (excess_in C H q.block) q.storage then record m { excess = true } else m) L
    (λ q m. marked_tag (has (excess_in C H q.block) q.storage) m)
    (λ q m e. marked_excess (is_good m.tag ≡ true) (has (excess_in C H q.block) q.storage) m
    (λ h. (and_parts (is_good m.tag) (not m.excess) (in_excess_usable C H q m e h)).0) (L.excess_is_good q m e))
    refl refl refl

-- The end of a round.

pub ordered_tag : (b : Bool) (m : Marks) → (if b then record m { ordered = true } else m).tag ≡ m.tag
ordered_tag true m = refl
ordered_tag false m = refl

ordered_excess : (b : Bool) (m : Marks) → (if b then record m { ordered = true } else m).excess ≡ m.excess
ordered_excess true m = refl
ordered_excess false m = refl

module _ (C : Cluster) (r : ℕ) (H : Holdings) (ts : List Transfer) (ds : List Delete) where
  abbrev ordered : ReplicaId → Marks → Marks
  ordered q m = if is_commanded ds q then record m { ordered = true } else m

  abbrev sent : Transfer → ReplicaId × ℕ
  sent t = (replica_at t.block t.target, r)

  with_orders : IsLawfulHoldings C H → IsLawfulHoldings C (record H { replicas = revise H.replicas ordered })
  with_orders L =
      remarked C H (record H { replicas = revise H.replicas ordered }) ordered L (λ q m. ordered_tag (is_commanded ds q) m)
      (λ q m e h. L.excess_is_good q m e (sym (ordered_excess (is_commanded ds q) m) ∙ h)) refl refl refl

  -- a property of all pending transfers and of all chosen ones holds of those pending after the
  -- round
  pub all_pending : (P : ReplicaId → ℕ → Type 0) → Holds P H.pending → Each (λ t. P (replica_at t.block t.target) r) ts → Holds P (end_round r H ts ds).pending
  unfolding end_round
  all_pending P h each = holds_insert_all P H.pending (map sent ts) h (each_mapped (λ e. P e.0 e.1) sent ts each)

  finished_lawful : IsLawfulHoldings C H → Each (IsPlaced C H) ts → IsLawfulHoldings C (end_round r H ts ds)
  unfolding end_round
  finished_lawful L each =
      let O = with_orders L in
      let on_known : Holds (λ q _. contains_key C.storages q.storage ≡ true) (end_round r H ts ds).pending =
      all_pending (λ q _. contains_key C.storages q.storage ≡ true) (λ q t e. L.pending_stored q (is_there (get H.pending q) t e)) (each_then (IsPlaced C H) (λ t. contains_key C.storages t.target ≡ true) ts each (λ t h. h.0)) in
      let of_known : Holds (λ q _. contains_key H.blocks q.block ≡ true) (end_round r H ts ds).pending =
      all_pending (λ q _. contains_key H.blocks q.block ≡ true) (λ q t e. L.pending_known q (is_there (get H.pending q) t e)) (each_then (IsPlaced C H) (λ t. contains_key H.blocks t.block ≡ true) ts each (λ t h. h.1)) in
      record {
        stored = O.stored;
        pending_stored = λ q e. let t = there (get (end_round r H ts ds).pending q) e in on_known q t.0 t.1;
        once = O.once;
        strays = O.strays;
        excess_is_good = O.excess_is_good;
        pending_known = λ q e. let t = there (get (end_round r H ts ds).pending q) e in of_known q t.0 t.1;
        replicated = O.replicated;
      }

-- Lawful states.

pub orderly : (M : State) → IsLawful M → IsOrderly M
orderly M L = record { cluster = L.cluster; holdings = L.holdings; commanded = L.commanded }

started_lawful : (M : State) → IsLawfulHoldings M.cluster M.holdings → IsLawfulHoldings M.cluster (state_at_choice M).holdings
unfolding state_at_choice state_after_expiry
started_lawful M L =
    let young = expired_lawful M.cluster M.holdings M.limits.pend (M.round + 1) L in
    marked_lawful M.cluster _ (cleared_lawful M.cluster _ young)

started_commanded : (M : State) → IsCommandedByNow M → Holds (λ _ r. r ≤ M.round + 1) (state_at_choice M).holdings.pending
unfolding state_at_choice state_after_expiry with_surplus_marked without_unordered_excess without_expired
started_commanded M L q t e =
    let h : t ≤ M.round = L q t (get_kept M.holdings.pending (λ _ t. not (nat_le M.limits.pend (M.round + 1 - t))) q t e).0 in
    omega (arith, h)

pub round_orderly : (M : State) → IsOrderly M → IsOrderly (whole_round M).1
unfolding whole_round state_at_choice state_after_expiry
round_orderly M O =
    let H : Holdings = (state_at_choice M).holdings in
    let ts : List Transfer = transfers M.limits M.cluster H in
    let ds : List Delete = deletes M.limits M.cluster H in
    let placed : Each (IsPlaced M.cluster H) ts = each_placed M.limits M.cluster H in
    record {
      cluster = O.cluster;
      holdings = finished_lawful M.cluster (M.round + 1) H ts ds (started_lawful M O.holdings) placed;
      commanded = all_pending M.cluster (M.round + 1) H ts ds (λ _ r. r ≤ M.round + 1) (started_commanded M O.commanded)
          (each_then (IsPlaced M.cluster H) (λ _. M.round + 1 ≤ M.round + 1) ts placed (λ _ _. omega arith));
    }

-- three revisions leave the known replicas as they are
known_thrice : (m : Map by_replica Marks) (f g h : ReplicaId → Marks → Marks) (q : ReplicaId) → contains_key (revise (revise (revise m f) g) h) q ≡ contains_key m q
known_thrice m f g h q = known_revised (revise (revise m f) g) h q ∙ known_revised (revise m f) g q ∙ known_revised m f q

round_numbers : (M : State) → HasFittingNumbers M → M.round < last_number → HasFittingNumbers (whole_round M).1
unfolding whole_round state_at_choice state_after_expiry with_surplus_marked without_unordered_excess without_expired end_round
round_numbers M F lt = record {
  limits = F.limits;
  nodes = F.nodes;
  storages = F.storages;
  blocks = F.blocks;
  replicas = λ q e. F.replicas q (sym (known_thrice M.holdings.replicas _ _ _ q) ∙ e);
  round = omega arith;
  calls = F.calls;
}

pub whole_lawful : (M : State) → IsLawful M → M.round < last_number → IsLawful (whole_round M).1
whole_lawful M L lt =
    let O = round_orderly M (orderly M L) in
    record { cluster = O.cluster; holdings = O.holdings; numbers = round_numbers M L.numbers lt; commanded = O.commanded }

pub counted_lawful : (M : State) → IsLawful M → M.calls < last_number → IsLawful (count_call M)
counted_lawful M L lt = record {
  cluster = L.cluster;
  holdings = L.holdings;
  numbers = record { limits = L.numbers.limits; nodes = L.numbers.nodes; storages = L.numbers.storages; blocks = L.numbers.blocks; replicas = L.numbers.replicas; round = L.numbers.round; calls = omega arith };
  commanded = L.commanded;
}

-- a round itself counts no call
calls_same : (M : State) → M.calls < last_number → (whole_round M).1.calls < last_number
unfolding whole_round state_at_choice state_after_expiry
calls_same M lt = lt

pub round_lawful : (M : State) → IsLawful M → round_refusal M ≡ None → IsLawful (count_call (whole_round M).1)
round_lawful M L none = let left = round_accepted M none in counted_lawful (whole_round M).1 (whole_lawful M L left.0) (calls_same M left.1)
