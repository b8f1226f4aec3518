-- Each chosen transfer copies a wish's block, with its stamp, from one of the wish's sources.
use Rattle.std.proofs.Common.{◌≡◌, ℕ, zero, suc, Bool, true, false, cond, List, [], ◌∷◌, ◌++◌, filter, replicate, length, Option, Some, None, is_some, refl, ap, subst}
use Rattle.std.specs.Prelude.{◌==◌, ◌*◌, ◌||◌, nat_le, nat_lt, option_to_list, option_and_then, option_map}
use Rattle.std.specs.List.{All, Contains}
use Rattle.std.proofs.lemmas.Bool.{eq-eqb, false≢true, or_right}
use Rattle.std.proofs.lemmas.Option.{same_Some}
use Rattle.std.proofs.lemmas.List.Elements.{All-nil, All-cons, All-append, All-contains_itself}
use Rattle.bm_base.specs.declared.replica.Level.{Level}
use Rattle.bm_base.specs.declared.commands.Transfer.{Transfer}
use Rattle.bm_base.specs.declared.round.Wish.{Wish}
use Rattle.bm_base.specs.declared.round.RoundPart.{RoundPart}
use Rattle.bm_base.specs.Words.{len, RoundLimits, Cluster, has, is_draining, streams_from, stream_limit, source_cmp, least_source_by, least_source, least_target}
use Rattle.bm_base.specs.Choices.{merged_wishes, one_by_one, sources_by, holders_by, excluded_by, transfer_by, transfers_over, chosen_transfers}
use Rattle.bm_base.proofs.ForEach.{Each, each_all, each_then, each_filtered, each_flat, least_is_one}
use Rattle.bm_round.specs.Copies.{IsCopyOf}

-- a list has each of its numbers
each_has : (xs : List ℕ) → Each (λ x. has xs x ≡ true) xs
each_has [] = tt
each_has (x ∷ xs) = (ap (λ b. b || has xs x) (eq-eqb x x refl), each_then (λ y. has xs y ≡ true) (λ y. has (x ∷ xs) y ≡ true) xs (each_has xs) (λ y h. or_right (x == y) (has xs y) h))

source_among : (C : Cluster) (chosen : List Transfer) (urgency : Level) (usable : List ℕ) (s : ℕ) → least_source C chosen urgency usable ≡ Some s → has usable s ≡ true
unfolding least_source least_source_by
source_among C chosen urgency usable s is =
    least_is_one (λ x. has usable x ≡ true) (source_cmp C (streams_from C chosen)) (filter (λ x. nat_lt (streams_from C chosen x) (stream_limit urgency (is_draining C x))) usable)
    (each_filtered (λ x. has usable x ≡ true) (λ x. nat_lt (streams_from C chosen x) (stream_limit urgency (is_draining C x))) usable (each_has usable)) s is

abbrev IsOf : Wish → Transfer → Type 0
IsOf w t = (t.block ≡ w.block) × (t.stamp ≡ w.stamp) × (has (sources_by w) t.source ≡ true)

abbrev made : Wish → ℕ → ℕ → Transfer
made w s u = record { block = w.block; stamp = w.stamp; source = s; target = u }

with_target : (w : Wish) (s : ℕ) (o : Option ℕ) (t : Transfer) → has (sources_by w) s ≡ true → option_map (made w s) o ≡ Some t → IsOf w t
with_target w s None t among e = absurd (false≢true (ap is_some e))
with_target w s (Some u) t among e = subst (IsOf w) (same_Some _ _ e) (refl, refl, among)

with_source : (w : Wish) (o : Option ℕ) (target : ℕ → Option ℕ) (t : Transfer) → ((s : ℕ) → o ≡ Some s → has (sources_by w) s ≡ true) → option_and_then (λ s. option_map (made w s) (target s)) o ≡ Some t → IsOf w t
with_source w None target t among e = absurd (false≢true (ap is_some e))
with_source w (Some s) target t among e = with_target w s (target s) t (among s refl) e

unless_full : (full : Bool) (w : Wish) (o : Option Transfer) (t : Transfer) → (o ≡ Some t → IsOf w t) → cond full None o ≡ Some t → IsOf w t
unless_full true w o t of e = absurd (false≢true (ap is_some e))
unless_full false w o t of e = of e

module _ (limits : RoundLimits) (C : Cluster) where
  of_wish : (chosen : List Transfer) (w : Wish) (t : Transfer) → transfer_by limits C chosen w ≡ Some t → IsOf w t
  unfolding transfer_by
  of_wish chosen w t e =
      unless_full (nat_le (limits.work * len C.nodes) (length chosen)) w _ t
      (with_source w (least_source C chosen w.level (sources_by w)) (λ _. least_target C chosen (record { urgency = w.level; holders = holders_by chosen w; excluded = excluded_by chosen w; len = w.stamp.len })) t (source_among C chosen w.level (sources_by w))) e

  all_optional : (all : List Wish) (w : Wish) (o : Option Transfer) → Contains all w → ((t : Transfer) → o ≡ Some t → IsOf w t) → All (IsCopyOf all) (option_to_list o)
  all_optional all w None among of = All-nil (IsCopyOf all)
  all_optional all w (Some t) among of = All-cons (IsCopyOf all) t [] (w, among, (of t refl).0, (of t refl).1, (of t refl).2) (All-nil (IsCopyOf all))

  copies_over : (all : List Wish) (chosen : List Transfer) (ws : List Wish) → All (IsCopyOf all) chosen → Each (Contains all) ws → All (IsCopyOf all) (transfers_over limits C chosen ws)
  copies_over all chosen [] so_far among = so_far
  copies_over all chosen (w ∷ ws) so_far among =
      copies_over all (chosen ++ option_to_list (transfer_by limits C chosen w)) ws
      (All-append (IsCopyOf all) chosen (option_to_list (transfer_by limits C chosen w)) so_far (all_optional all w (transfer_by limits C chosen w) among.0 (of_wish chosen w))) among.1

  each_replicated : (P : Wish → Type 0) (n : ℕ) (w : Wish) → P w → Each P (replicate n w)
  each_replicated P zero w h = tt
  each_replicated P (suc n) w h = (h, each_replicated P n w h)

  each_one_by_one : (P : Wish → Type 0) (ws : List Wish) → Each P ws → Each P (one_by_one ws)
  unfolding one_by_one
  each_one_by_one P ws h = each_flat P (λ w. replicate w.count w) ws (each_then P (λ w. Each P (replicate w.count w)) ws h (λ w. each_replicated P w.count w))

  pub copies_of_wishes : (ps : List RoundPart) → All (IsCopyOf (merged_wishes ps)) (chosen_transfers limits C ps)
  unfolding chosen_transfers
  copies_of_wishes ps =
      let all = merged_wishes ps in
      copies_over all [] (one_by_one all) (All-nil (IsCopyOf all)) (each_one_by_one (Contains all) all (each_all (Contains all) all (All-contains_itself all)))
