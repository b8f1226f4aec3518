-- Each round of a repair extends its history by one round, at its tick.
use Rattle.std.proofs.Common.{◌≡◌, ◌∙◌, ◌++◌, ℕ, ◌+◌, Bool, true, false, Option, Some, None, List, [], ◌∷◌, refl, sym, ap, subst, length, arith}
use Rattle.std.specs.Prelude.{◌<◌, ◌/◌, ◌==◌, ◌&&◌, ◌||◌, is_some, nat_le, if◌then◌else◌}
use Rattle.std.specs.Option.{option_map_or}
use Rattle.bm_base.specs.declared.commands.Commands.{Commands}
use Rattle.bm_base.specs.declared.commands.Delete.{Delete}
use Rattle.bm_base.specs.declared.replica.BlockInfo.{BlockInfo}
use Rattle.bm_base.specs.Words.{Cluster, State, count_call, whole_round}
use Rattle.cluster_report.specs.Catalogues.{len_in, len_of}
use Rattle.cluster_report.specs.declared.catalogue.Catalogue.{Catalogue}
use Rattle.cluster_repair.specs.declared.datanodes.DataNodes.{DataNodes}
use Rattle.cluster_repair.specs.declared.awaited_copies.Sent.{Sent}
use Rattle.cluster_repair.specs.declared.repair.Repair.{Repair}
use Rattle.cluster_repair.specs.declared.repair.Retirement.{Retirement}
use Rattle.cluster_repair.specs.declared.rows.Row.{Row}
use Rattle.cluster_repair.specs.declared.ticks.Ticks.{Ticks}
use Rattle.cluster_repair.specs.History.{AreOf, ComesAt, GoesOn, HasTaken, IsTaken, RoundRecord, are_idle, awaited_rounds, copies_of, datanodes_of, time_of}
use Rattle.cluster_repair.specs.Reports.{HaveReported}
use Rattle.cluster_repair.specs.Retirements.{note_at, noted}
use Rattle.cluster_repair.specs.Rows.{AreCounts, IsRowOf, is_over}
use Rattle.cluster_repair.specs.SentCopies.{AreBegun, AreCounted, count_copies, deletes_in, transfers_in}
use Rattle.cluster_repair.specs.Ticks.{IsNextTick}

pub one_longer : {X : Type 0} (m n : ℕ) (x : X) (before : List X) → m ≡ n + 1 → n ≡ length before → m ≡ length (x ∷ before)
one_longer m n x before is same = omega (arith, is, same)

lengths : (blocks : Catalogue) (C : Cluster) (n : ℕ) (M : State) → AreOf C blocks n M → len_in blocks ≡ len_of M.holdings.blocks
lengths blocks C n M of = λ i b. option_map_or (λ (info : BlockInfo). info.stamp.len) (of.lists b i) 0

-- a repair that is not over goes on
goes_on_after : (M : State) (d : DataNodes) (taken : List RoundRecord) (n rounds : ℕ) (e : DataNodes) → n ≡ awaited_rounds M.holdings.pending M.limits.pend → rounds ≡ length taken
    → e ≡ datanodes_of d taken → (0 < rounds → (nat_le n rounds && are_idle e) ≡ false) → GoesOn M taken
goes_on_after M d [] n rounds e awaited number same going = tt
goes_on_after M d (last ∷ before) n rounds e awaited number same going =
    ap (λ k. nat_le k (length (last ∷ before)) && are_idle last.datanodes) (sym awaited) ∙ ap (λ k. nat_le n k && are_idle last.datanodes) (sym number)
    ∙ ap (λ f. nat_le n rounds && are_idle f) (sym same) ∙ going (omega (arith, number))

-- one more round
module _ (ticks : Ticks) (M : State) (d : DataNodes) (K L : State) (C : Cluster) (blocks : Catalogue) (n : ℕ) (old new : Repair) (mid : DataNodes) (now : ℕ) (has_taken : HasTaken ticks M d K old) (of : AreOf C blocks n M) (going : 0 < old.rounds → (nat_le n old.rounds && are_idle old.datanodes) ≡ false) (comes : ComesAt ticks has_taken.taken now) (reported : HaveReported (len_in blocks) now old.datanodes mid K L) (begun : AreBegun C now (transfers_in (whole_round L).0) mid new.datanodes) (deletes : new.datanodes.deletes.items ≡ mid.deletes.items ++ deletes_in (whole_round L).0) where
  abbrev pub begun_there : AreBegun M.cluster now (transfers_in (whole_round L).0) mid new.datanodes
  begun_there = subst (λ (D : Cluster). AreBegun D now (transfers_in (whole_round L).0) mid new.datanodes) of.cluster begun

  abbrev pub round_taken : RoundRecord
  round_taken = record { time = now; state = L; copies = begun_there.copies; datanodes = new.datanodes }

  pub is_taken : IsTaken ticks M d has_taken.taken round_taken
  is_taken = record {
    goes_on = goes_on_after M d has_taken.taken n old.rounds old.datanodes of.awaited has_taken.rounds has_taken.datanodes going;
    comes = comes;
    mid = mid;
    reported = subst (λ (S : State). HaveReported (len_of M.holdings.blocks) now (datanodes_of d has_taken.taken) mid S L) has_taken.state
        (subst (λ (e : DataNodes). HaveReported (len_of M.holdings.blocks) now e mid K L) has_taken.datanodes
        (subst (λ (len : ℕ → ℕ). HaveReported len now old.datanodes mid K L) (lengths blocks C n M of) reported));
    begun = begun_there;
    copies = refl;
    deletes = deletes ∙ ap (λ (ds : List Delete). ds ++ deletes_in (whole_round L).0) reported.deletes;
  }

  abbrev pub taken_more : (N : State) (k : Commands) → N ≡ count_call (whole_round L).1 → k ≡ (whole_round L).0 → new.rounds ≡ old.rounds + 1 → new.time ≡ now → new.commanded ≡ count_copies k
      → ((ss : List Sent) → AreCounted ss old.datanodes → AreCounted ss mid) → HasTaken ticks M d N new
  taken_more N k after is rounds time commanded same = record {
    taken = round_taken ∷ has_taken.taken;
    are = (is_taken, has_taken.are);
    rounds = one_longer new.rounds old.rounds round_taken has_taken.taken rounds has_taken.rounds;
    time = time;
    commanded = commanded ∙ ap count_copies is;
    state = after;
    datanodes = refl;
    counted = begun_there.counted (copies_of has_taken.taken) (same (copies_of has_taken.taken) has_taken.counted);
  }

-- only other fields changed
abbrev pub taken_alike : (ticks : Ticks) (M : State) (d : DataNodes) (N : State) (old new : Repair) → HasTaken ticks M d N old → new.rounds ≡ old.rounds → new.time ≡ old.time
    → new.commanded ≡ old.commanded → new.datanodes ≡ old.datanodes → HasTaken ticks M d N new
taken_alike ticks M d N old new has_taken rounds now commanded same = record {
  taken = has_taken.taken;
  are = has_taken.are;
  rounds = rounds ∙ has_taken.rounds;
  time = now ∙ has_taken.time;
  commanded = commanded ∙ has_taken.commanded;
  state = has_taken.state;
  datanodes = same ∙ has_taken.datanodes;
  counted = subst (AreCounted (copies_of has_taken.taken)) (sym same) has_taken.counted;
}

-- the row of the last round
pub row_of : (ticks : Ticks) (M : State) (d : DataNodes) (N : State) (r : Repair) (row : Row) → (has_taken : HasTaken ticks M d N r) → 0 < r.rounds → row.round ≡ r.rounds
    → row.seconds ≡ r.time / 1000000 → AreCounts N row.levels → row.commanded ≡ r.commanded → row.on_way ≡ length r.datanodes.on_way.sent.items
    → IsRowOf M d has_taken.taken row
row_of ticks M d N r row has_taken some round seconds counts commanded on_way = record {
  some = subst (λ n. 0 < n) (sym round) some;
  round = round ∙ has_taken.rounds;
  seconds = seconds ∙ ap (λ t. t / 1000000) has_taken.time;
  levels = subst (λ (S : State). AreCounts S row.levels) has_taken.state counts;
  commanded = commanded ∙ has_taken.commanded;
  on_way = on_way ∙ ap (λ (e : DataNodes). length e.on_way.sent.items) has_taken.datanodes;
}

-- The time of the next round.

none_taken : (n : ℕ) → 0 < n → n ≡ 0 → ⊥
none_taken n above none = omega (arith, above, none)

-- the first round comes at once
pub comes_first : (ticks : Ticks) (taken : List RoundRecord) (rounds : ℕ) → rounds ≡ length taken → rounds ≡ 0 → ComesAt ticks taken 0
comes_first ticks [] rounds number none = refl
comes_first ticks (last ∷ before) rounds number none = absurd (none_taken rounds (omega (arith, number)) none)

-- and each other at its tick
pub comes_next : (ticks : Ticks) (d : DataNodes) (taken : List RoundRecord) (rounds now next : ℕ) (e : DataNodes) → 0 < rounds → rounds ≡ length taken → now ≡ time_of taken
    → e ≡ datanodes_of d taken → IsNextTick ticks e.on_way.sent.items now next → ComesAt ticks taken next
comes_next ticks d [] rounds now next e above number time is = absurd (none_taken rounds above number)
comes_next ticks d (last ∷ before) rounds now next e above number time is =
    λ tick. subst (λ t. IsNextTick ticks last.datanodes.on_way.sent.items t next) time (subst (λ (f : DataNodes). IsNextTick ticks f.on_way.sent.items now next) is tick)

-- Answers about a node.

-- the note after one more answer
pub since_more : (said there : Bool) (n rounds long seconds : ℕ) (old new before : Option Retirement) → there ≡ true → new ≡ (if there then noted said old (note_at n rounds seconds) else old)
    → old ≡ before → rounds ≡ long → new ≡ noted said before (note_at n long seconds)
since_more said there n rounds long seconds old new before is answer same number =
    answer ∙ ap (λ b. if b then noted said old (note_at n rounds seconds) else old) is ∙ ap (λ o. noted said o (note_at n rounds seconds)) same
    ∙ ap (λ k. noted said before (note_at n k seconds)) number

some_if : (said : Bool) (before : Option Retirement) (t : Retirement) → is_some (noted said before t) ≡ said
some_if true None t = refl
some_if true (Some u) t = refl
some_if false before t = refl

pub listed_if : (said : Bool) (new before : Option Retirement) (t : Retirement) → new ≡ noted said before t → is_some new ≡ said
listed_if said new before t is = ap is_some is ∙ some_if said before t

-- The end.

pub over_alike : (a b : ℕ) (old new : Repair) → a ≡ b → new.rounds ≡ old.rounds → new.datanodes ≡ old.datanodes → is_over a old ≡ true → is_over b new ≡ true
over_alike a b old new same rounds datanodes over =
    ap (λ n. (nat_le b n && are_idle new.datanodes) || (n == 1000000)) rounds
    ∙ ap (λ (d : DataNodes). (nat_le b old.rounds && are_idle d) || (old.rounds == 1000000)) datanodes
    ∙ ap (λ n. (nat_le n old.rounds && are_idle old.datanodes) || (old.rounds == 1000000)) (sym same) ∙ over
