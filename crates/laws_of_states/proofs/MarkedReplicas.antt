-- Marking takes a block's surplus from its live replicas, and commands change none of the rest.
use Rattle.std.specs.Prelude.{◌≡◌, ℕ, ◌+◌, ◌-◌, Bool, true, false, not, ◌&&◌, ◌==◌, if◌then◌else◌, List, [], ◌∷◌, map, filter, length, Some}
use Rattle.std.specs.Option.{option_map_or}
use Rattle.std.proofs.Common.{cond, refl, sym, ap, subst, ◌∙◌, arith}
use Rattle.std.proofs.lemmas.Bool.{eqb-true}
use Rattle.std.proofs.Math.Bool.{and-false}
use Rattle.bm_base.specs.declared.replica.ReplicaId.{ReplicaId}
use Rattle.bm_base.specs.declared.replica.Marks.{Marks}
use Rattle.bm_base.specs.declared.replica.BlockInfo.{BlockInfo}
use Rattle.bm_base.specs.declared.commands.Transfer.{Transfer}
use Rattle.bm_base.specs.declared.commands.Delete.{Delete}
use Rattle.bm_base.specs.Words.{get, entries, Cluster, Holdings, State, has, live, is_usable, is_live_on, is_draining, is_good, storages_where, state_after_expiry, state_at_choice, without_expired, without_unordered_excess, with_surplus_marked, excess_in, excess_of, excess_among, end_round, is_commanded, whole_round}
use Rattle.bm_base.specs.Promises.NextRound.{unmarked, live_unmarked, live_marked, live_after}
use Rattle.bm_base.proofs.Membership.{listed, revised_where, once_where}
use Rattle.laws_of_states.proofs.Surpluses.{kept_of, kept_count}

-- The marks of a replica in a round.

abbrev pub unordered_dropped : Marks → Marks
unordered_dropped m = if m.ordered then m else record m { excess = false }

abbrev pub marked_in : List ℕ → ℕ → Marks → Marks
marked_in chosen s m = if has chosen s then record m { excess = true } else m

abbrev pub ordered_by : List Delete → ReplicaId → Marks → Marks
ordered_by ds q m = if is_commanded ds q then record m { ordered = true } else m

-- the storages of the usable entries of a block after marking are those before, less the chosen
-- ones; `on` tests storages
marked_list : (on : ℕ → Bool) (b : ℕ) (chosen : ℕ → List ℕ) (es : List (ReplicaId × Marks))
    → map (λ e. e.0.storage) (filter (λ e. (e.0.block == b) && (is_usable (marked_in (chosen e.0.block) e.0.storage e.1) && on e.0.storage)) es) ≡ kept_of (chosen b) (listed (λ s m. is_usable m && on s) b es)
marked_list on b chosen [] = refl
marked_list on b chosen (e ∷ es) =
    let rest = marked_list on b chosen es in
    let left : List (ReplicaId × Marks) = filter (λ d. (d.0.block == b) && (is_usable (marked_in (chosen d.0.block) d.0.storage d.1) && on d.0.storage)) es in
    let right : List (ReplicaId × Marks) = filter (λ d. (d.0.block == b) && (is_usable d.1 && on d.0.storage)) es in
    (elim (e.0.block == b) as (λ t. (e.0.block == b) ≡ t → map (λ (d : ReplicaId × Marks). d.0.storage) (cond (t && (is_usable (marked_in (chosen e.0.block) e.0.storage e.1) && on e.0.storage)) (e ∷ left) left)
    ≡ kept_of (chosen b) (map (λ (d : ReplicaId × Marks). d.0.storage) (cond (t && (is_usable e.1 && on e.0.storage)) (e ∷ right) right))) [
      | true ↦ λ t. subst (λ c. map (λ (d : ReplicaId × Marks). d.0.storage) (cond (is_usable (marked_in (chosen c) e.0.storage e.1) && on e.0.storage) (e ∷ left) left) ≡ kept_of (chosen b) (map (λ (d : ReplicaId × Marks). d.0.storage) (cond (is_usable e.1 && on e.0.storage) (e ∷ right) right)))
          (sym (eqb-true e.0.block b t)) (here e left right (has (chosen b) e.0.storage) refl rest)
      | false ↦ λ _. rest
    ]) refl
  where
    here : (e : ReplicaId × Marks) (left right : List (ReplicaId × Marks)) (t : Bool) → has (chosen b) e.0.storage ≡ t
        → map (λ (d : ReplicaId × Marks). d.0.storage) left ≡ kept_of (chosen b) (map (λ (d : ReplicaId × Marks). d.0.storage) right)
        → map (λ (d : ReplicaId × Marks). d.0.storage) (cond (is_usable (if has (chosen b) e.0.storage then record e.1 { excess = true } else e.1) && on e.0.storage) (e ∷ left) left)
        ≡ kept_of (chosen b) (map (λ (d : ReplicaId × Marks). d.0.storage) (cond (is_usable e.1 && on e.0.storage) (e ∷ right) right))
    here e left right true is rest =
        ap (λ u. map (λ (d : ReplicaId × Marks). d.0.storage) (cond (is_usable (if u then record e.1 { excess = true } else e.1) && on e.0.storage) (e ∷ left) left)) is
        ∙ ap (λ u. map (λ (d : ReplicaId × Marks). d.0.storage) (cond (u && on e.0.storage) (e ∷ left) left)) (and-false (is_good e.1.tag))
        ∙ rest
        ∙ (elim (is_usable e.1 && on e.0.storage) as (λ u. kept_of (chosen b) (map (λ (d : ReplicaId × Marks). d.0.storage) right) ≡ kept_of (chosen b) (map (λ (d : ReplicaId × Marks). d.0.storage) (cond u (e ∷ right) right))) [
          | true ↦ sym (ap (λ u. cond (not u) (e.0.storage ∷ kept_of (chosen b) (map (λ (d : ReplicaId × Marks). d.0.storage) right)) (kept_of (chosen b) (map (λ (d : ReplicaId × Marks). d.0.storage) right))) is)
          | false ↦ refl
        ])
    here e left right false is rest =
        ap (λ u. map (λ (d : ReplicaId × Marks). d.0.storage) (cond (is_usable (if u then record e.1 { excess = true } else e.1) && on e.0.storage) (e ∷ left) left)) is
        ∙ (elim (is_usable e.1 && on e.0.storage) as (λ u. map (λ (d : ReplicaId × Marks). d.0.storage) (cond u (e ∷ left) left) ≡ kept_of (chosen b) (map (λ (d : ReplicaId × Marks). d.0.storage) (cond u (e ∷ right) right))) [
          | true ↦ ap (λ ss. e.0.storage ∷ ss) rest ∙ sym (ap (λ u. cond (not u) (e.0.storage ∷ kept_of (chosen b) (map (λ (d : ReplicaId × Marks). d.0.storage) right)) (kept_of (chosen b) (map (λ (d : ReplicaId × Marks). d.0.storage) right))) is)
          | false ↦ rest
        ])

-- Once a round has marked, the live replicas of a block are the earlier ones less its surplus.
pub live_marking : (C : Cluster) (H : Holdings) (b : ℕ) → live C (with_surplus_marked C H) b ≡ kept_of (excess_in C H b) (live C H b)
unfolding storages_where with_surplus_marked
live_marking C H b =
    revised_where (is_live_on C) H b (λ q m. marked_in (excess_in C H q.block) q.storage m) ∙ marked_list (λ s. not (is_draining C s)) b (excess_in C H) (entries H.replicas)

pub ordered_usable : (t : Bool) (m : Marks) → is_usable (if t then record m { ordered = true } else m) ≡ is_usable m
ordered_usable true m = refl
ordered_usable false m = refl

-- commands change no live replica
pub live_finished : (C : Cluster) (r : ℕ) (H : Holdings) (ts : List Transfer) (ds : List Delete) (b : ℕ) → live C (end_round r H ts ds) b ≡ live C H b
unfolding storages_where end_round
live_finished C r H ts ds b =
    revised_where (is_live_on C) H b (λ q m. ordered_by ds q m)
    ∙ ap (λ (p : ReplicaId × Marks → Bool). map (λ (e : ReplicaId × Marks). e.0.storage) (filter p (entries H.replicas))) (λ i e. (e.0.block == b) && (ordered_usable (is_commanded ds e.0) e.1 i && not (is_draining C e.0.storage)))

pub after_marked : (M : State) (b : ℕ) → live_after M b ≡ live_marked M b
unfolding whole_round
after_marked M b = live_finished M.cluster _ _ _ _ b

pub marked_unmarked : (M : State) (b : ℕ) → live_marked M b ≡ kept_of (excess_in M.cluster (unmarked M).holdings b) (live_unmarked M b)
unfolding state_at_choice state_after_expiry
marked_unmarked M b = live_marking M.cluster (unmarked M).holdings b

module _ (M : State) (b : ℕ) (i : BlockInfo) (known : get M.holdings.blocks b ≡ Some i) where
  -- the surplus of a known block
  pub excess_known : excess_in M.cluster (unmarked M).holdings b ≡ excess_among M.cluster (length (live_unmarked M b) - i.repl) (live_unmarked M b)
  unfolding excess_in excess_of state_after_expiry without_expired without_unordered_excess storages_where
  excess_known = ap (λ j. option_map_or (λ x. excess_of M.cluster (live_unmarked M b) x.repl) j []) known

  pub marked_is : live_marked M b ≡ kept_of (excess_among M.cluster (length (live_unmarked M b) - i.repl) (live_unmarked M b)) (live_unmarked M b)
  marked_is = marked_unmarked M b ∙ ap (λ xs. kept_of xs (live_unmarked M b)) excess_known

  pub marked_count : length (live_marked M b) + (length (live_unmarked M b) - i.repl) ≡ length (live_unmarked M b)
  marked_count =
      ap (λ xs. length xs + (length (live_unmarked M b) - i.repl)) marked_is
      ∙ kept_count M.cluster (length (live_unmarked M b) - i.repl) (live_unmarked M b) (once_where (is_live_on M.cluster) (unmarked M).holdings b) (omega arith)
