-- Reports and rounds lead from a repair's first state to its last; rows and notes describe them.
use Rattle.std.proofs.Common.{◌≡◌, ◌∙◌, ◌++◌, ℕ, ◌+◌, ◌≤◌, true, not, List, [], ◌∷◌, None, refl, sym, ap, subst, length, map, take, take_all, get_or, arith}
use Rattle.std.specs.Prelude.{◌<◌, ◌/◌, ◌&&◌, false, nat_le}
use Rattle.std.specs.List.{filter}
use Rattle.std.proofs.lemmas.List.{map-append, take_more}
use Rattle.std.proofs.lemmas.List.Elements.{All-nil, All-same, All-push, All-filter}
use Rattle.std.proofs.lemmas.List.Sums.{fold-append}
use Rattle.bm_base.specs.declared.commands.Commands.{Commands}
use Rattle.bm_base.specs.declared.commands.Delete.{Delete}
use Rattle.bm_base.specs.declared.event.Event.{Event}
use Rattle.bm_base.specs.declared.event.Event.TheVariants.{Heartbeat}
use Rattle.bm_base.specs.declared.event.Remaining.{Remaining}
use Rattle.bm_base.specs.declared.call.Call.{Call}
use Rattle.bm_base.specs.declared.call.Call.TheVariants as call
use Rattle.bm_base.specs.declared.call.Answer.TheVariants as answer
use Rattle.bm_base.specs.Words.{Cluster, State, has, whole_round, refusal_of, round_refusal, step, refused_or, count_call, done_by, after_event, state_after}
use Rattle.laws_of_repairs.proofs.WatchedBlocks.{round_is_next, covers_after_heartbeat, covers_reported}
use Rattle.cluster_report.specs.Catalogues.{len_in}
use Rattle.cluster_report.specs.declared.catalogue.Catalogue.{Catalogue}
use Rattle.cluster_repair.specs.declared.free_bytes.FreeBytes.{FreeBytes}
use Rattle.cluster_repair.specs.declared.free_bytes.NodeStorages.{NodeStorages}
use Rattle.cluster_repair.specs.declared.rows.Row.{Row}
use Rattle.cluster_repair.specs.declared.repair.Repair.{Repair}
use Rattle.cluster_repair.specs.declared.awaited_copies.Sent.{Sent}
use Rattle.cluster_repair.specs.declared.datanodes.DataNodes.{DataNodes}
use Rattle.cluster_repair.specs.declared.ticks.Ticks.{Ticks}
use Rattle.cluster_repair.specs.History.{AreAtStart, AreOf, ComesAt, HasTaken, RoundRecord, are_idle}
use Rattle.cluster_repair.specs.Reports.{HaveReported, IsReached, after_events, deleted, heartbeat_of, received, reports_of}
use Rattle.cluster_repair.specs.Retirements.{AreAnswered, is_retired_in, note_at, noted, retired_since, retirement_of}
use Rattle.cluster_repair.specs.LinkModel.{remaining_in}
use Rattle.cluster_repair.specs.SentCopies.{AreCounted, AreBegun, count_copies, deletes_in, transfers_in}
use Rattle.cluster_repair.specs.Rows.{AreReported, AreCounts, IsRowAmong, AreRowsAmong, EndsWith, IsUnderWay, IsNoted, HasEnded, AreLeveled, is_on_stride}
use Rattle.cluster_repair.proofs.HistoryLemmas.{listed_if, row_of, since_more, taken_alike, taken_more}

state_after-append : (M : State) (calls more : List Call) → state_after M (calls ++ more) ≡ state_after (state_after M calls) more
state_after-append M [] more = refl
state_after-append M (k ∷ calls) more = state_after-append (step M k).1 calls more

none_more : (n : ℕ) → n ≡ n + 0
none_more n = omega arith

reached_at_once : (M : State) → IsReached 0 M M
reached_at_once M = record { calls = []; leads = refl; later = none_more M.round }

reached_on : (L M N : State) (j k : ℕ) → IsReached j L M → IsReached k M N → IsReached (j + k) L N
reached_on L M N j k first second = record {
  calls = first.calls ++ second.calls;
  leads = second.leads ∙ (ap (λ S. state_after S second.calls) first.leads ∙ sym (state_after-append L first.calls second.calls));
  later = let one = first.later in let two = second.later in omega (arith, one, two);
}

reached_by_event : (M N : State) (e : Event) → refusal_of M e ≡ None → N ≡ after_event M e → IsReached 0 M N
unfolding step after_event
reached_by_event M N e accepted after = record {
  calls = call.Apply e ∷ [];
  leads = after ∙ sym (ap (λ r. (refused_or M r (answer.Done (done_by M e), after_event M e)).1) accepted);
  later = ap (λ (S : State). S.round) after ∙ none_more M.round;
}

reached_by_round : (M N : State) → round_refusal M ≡ None → N ≡ count_call (whole_round M).1 → IsReached 1 M N
unfolding step
reached_by_round M N accepted after = record {
  calls = call.Round ∷ [];
  leads = after ∙ sym (ap (λ r. (refused_or M r (answer.Commanded (whole_round M).0, count_call (whole_round M).1)).1) accepted);
  later = ap (λ (S : State). S.round) after ∙ round_is_next M;
}

-- Reports.

pub reported_at_once : (M : State) (bs : List ℕ) → AreReported [] M M bs bs
reported_at_once M bs = record { state = refl; reached = reached_at_once M; covers = λ c. c }

pub reported_on : (es fs gs : List Event) (L M N : State) (xs ys zs : List ℕ) → gs ≡ es ++ fs → AreReported es L M xs ys → AreReported fs M N ys zs → AreReported gs L N xs zs
reported_on es fs gs L M N xs ys zs is first second = record {
  state = second.state ∙ ap (λ S. after_events S fs) first.state ∙ sym (ap (after_events L) is ∙ fold-append after_event L es fs);
  reached = reached_on L M N 0 0 first.reached second.reached;
  covers = λ c. second.covers (first.covers c);
}

-- one more of a list that is reported in order
pub reported_more : {X : Type 0} (f : X → Event) (items : List X) (i : ℕ) (x : X) (L M N : State) (xs ys zs : List ℕ) → i < length items → x ≡ get_or items i x
    → AreReported (map f (take i items)) L M xs ys → AreReported (f x ∷ []) M N ys zs → AreReported (map f (take (i + 1) items)) L N xs zs
reported_more {X} f items i x L M N xs ys zs below is first second =
    reported_on (map f (take i items)) (f x ∷ []) (map f (take (i + 1) items)) L M N xs ys zs
    (ap (map f) (take_more items i x below) ∙ map-append f (take i items) (get_or items i x ∷ []) ∙ ap (λ y. map f (take i items) ++ f y ∷ []) (sym is)) first second

pub reported_all : {X : Type 0} (f : X → Event) (items : List X) (i : ℕ) (M N : State) (xs ys : List ℕ) → length items ≤ i → AreReported (map f (take i items)) M N xs ys
    → AreReported (map f items) M N xs ys
reported_all {X} f items i M N xs ys all reported = subst (λ (zs : List X). AreReported (map f zs) M N xs ys) (take_all i items all) reported

pub reported_copy : (M N : State) (xs ys : List ℕ) (s : Sent) → refusal_of M (received s) ≡ None → N ≡ after_event M (received s)
    → ys ≡ xs ++ s.transfer.block ∷ [] → AreReported (received s ∷ []) M N xs ys
reported_copy M N xs ys s accepted after added = record {
  state = after;
  reached = reached_by_event M N (received s) accepted after;
  covers = covers_reported M N (received s) xs ys s.transfer.block added (λ b apart. ap not apart) after;
}

pub reported_delete : (M N : State) (xs ys : List ℕ) (d : Delete) → refusal_of M (deleted d) ≡ None → N ≡ after_event M (deleted d) → ys ≡ xs ++ d.block ∷ []
    → AreReported (deleted d ∷ []) M N xs ys
reported_delete M N xs ys d accepted after added = record {
  state = after;
  reached = reached_by_event M N (deleted d) accepted after;
  covers = covers_reported M N (deleted d) xs ys d.block added (λ b apart. ap not apart) after;
}

pub reported_free : (M N : State) (xs : List ℕ) (f : FreeBytes) (n : NodeStorages) (rs : List Remaining) → rs ≡ map (remaining_in f) n.storages.items
    → refusal_of M (Heartbeat n.node rs) ≡ None → N ≡ after_event M (Heartbeat n.node rs) → AreReported (heartbeat_of f n ∷ []) M N xs xs
reported_free M N xs f n rs are accepted after = record {
  state = after ∙ ap (λ rs. after_event M (Heartbeat n.node rs)) are;
  reached = reached_by_event M N (Heartbeat n.node rs) accepted after;
  covers = covers_after_heartbeat M N (Heartbeat n.node rs) xs (λ b. refl) after;
}

-- copies, deletes, and the free bytes after them
pub reported_in_turn : (due ss : List Sent) (ds es : List Delete) (f : FreeBytes) (K L M N : State) (xs ys zs : List ℕ) → ss ≡ due → es ≡ ds → AreReported (map received ss) K L xs ys
    → AreReported (map deleted es) L M ys zs → ((bs : List ℕ) → AreReported (map (heartbeat_of f) f.nodes.items) M N bs bs) → AreReported (reports_of due ds f) K N xs zs
reported_in_turn due ss ds es f K L M N xs ys zs copies deletes first second third =
    let gone = map deleted ds in
    let free = map (heartbeat_of f) f.nodes.items in
    reported_on (map received due) (gone ++ free) (reports_of due ds f) K L N xs ys zs refl (subst (λ (ts : List Sent). AreReported (map received ts) K L xs ys) copies first)
    (reported_on gone free (gone ++ free) L M N ys zs zs refl (subst (λ (gs : List Delete). AreReported (map deleted gs) L M ys zs) deletes second) (third zs))

-- Rows.

no_rows : (M : State) (d : DataNodes) (taken : List RoundRecord) → AreRowsAmong M d taken []
no_rows M d taken = record { all = All-nil (IsRowAmong M d taken) }

pub rows_and : (M : State) (d : DataNodes) (taken : List RoundRecord) (rows new : List Row) (row : Row) → new ≡ rows ++ row ∷ [] → AreRowsAmong M d taken rows
    → IsRowAmong M d taken row → AreRowsAmong M d taken new
rows_and M d taken rows new row is before one = record {
  all = All-same (IsRowAmong M d taken) new _ is (All-push (IsRowAmong M d taken) rows row before.all one);
}

pub rows_among : (M : State) (d : DataNodes) (taken : List RoundRecord) (rows new : List Row) (stride : ℕ) → new ≡ filter (λ r. is_on_stride r.round stride) rows
    → AreRowsAmong M d taken rows → AreRowsAmong M d taken new
rows_among M d taken rows new stride is before = record {
  all = All-same (IsRowAmong M d taken) new _ is (All-filter (λ r. is_on_stride r.round stride) (IsRowAmong M d taken) rows before.all);
}

-- after one more round
row_later : (M : State) (d : DataNodes) (taken : List RoundRecord) (round : RoundRecord) (row : Row) → IsRowAmong M d taken row → IsRowAmong M d (round ∷ taken) row
row_later M d taken round row among =
    record { later = round ∷ among.later; before = among.before; parts = ap (λ (rs : List RoundRecord). round ∷ rs) among.parts; reached = among.reached; is = among.is }

rows_later : (M : State) (d : DataNodes) (taken : List RoundRecord) (round : RoundRecord) (rows : List Row) → AreRowsAmong M d taken rows → AreRowsAmong M d (round ∷ taken) rows
rows_later M d taken round rows among = record { all = λ k e below. row_later M d taken round (get_or rows k e) (among.all k e below) }

-- Rounds.

pub under_way_at_once : (ticks : Ticks) (M : State) (r : Repair) → r.rows.rows.items ≡ [] → r.retired.items ≡ [] → r.rounds ≡ 0 → r.time ≡ 0 → r.commanded ≡ 0
    → AreAtStart M.cluster r.datanodes → AreCounted [] r.datanodes → IsUnderWay ticks M r.datanodes M r
under_way_at_once ticks M r rows retired rounds now commanded at_start counted = record {
  at_start = at_start;
  reached = subst (λ n. IsReached n M M) (sym rounds) (reached_at_once M);
  history = record { taken = []; are = tt; rounds = rounds; time = now; commanded = commanded; state = refl; datanodes = refl; counted = counted };
  rows = subst (AreRowsAmong M r.datanodes []) (sym rows) (no_rows M r.datanodes []);
  retired = λ n there. ap (λ ts. retirement_of ts n) retired;
}

-- reports and a round
pub under_way_by_round : (ticks : Ticks) (M : State) (d : DataNodes) (C : Cluster) (blocks : Catalogue) (most : ℕ) (K L N : State) (old new : Repair) (mid : DataNodes) (k : Commands) (now : ℕ)
    → AreOf C blocks most M → (0 < old.rounds → (nat_le most old.rounds && are_idle old.datanodes) ≡ false) → round_refusal L ≡ None → N ≡ count_call (whole_round L).1 → k ≡ (whole_round L).0
    → new.rounds ≡ old.rounds + 1 → new.time ≡ now → new.rows.rows.items ≡ old.rows.rows.items → new.commanded ≡ count_copies k → new.drained.items ≡ old.drained.items
    → ((history : HasTaken ticks M d K old) → ComesAt ticks history.taken now)
    → HaveReported (len_in blocks) now old.datanodes mid K L → ((ss : List Sent) → AreCounted ss old.datanodes → AreCounted ss mid)
    → AreBegun C now (transfers_in k) mid new.datanodes → new.datanodes.deletes.items ≡ mid.deletes.items ++ deletes_in k
    → AreAnswered L old.drained.items old.rounds (now / 1000000) old.retired.items new.retired.items
    → IsUnderWay ticks M d K old → IsUnderWay ticks M d N new
under_way_by_round ticks M d C blocks most K L N old new mid k now of going accepted after is rounds time rows commanded drained comes reported same begun deletes answers on =
    let reached_then : IsReached old.rounds M L = subst (λ n. IsReached n M L) (sym (none_more old.rounds)) (reached_on M K L old.rounds 0 on.reached reported.reached) in
    let begun_then = subst (λ (k : Commands). AreBegun C now (transfers_in k) mid new.datanodes) is begun in
    let deleted_then = deletes ∙ ap (λ (k : Commands). mid.deletes.items ++ deletes_in k) is in
    let history : HasTaken ticks M d N new =
    taken_more ticks M d K L C blocks most old new mid now on.history of going (comes on.history) reported begun_then deleted_then N k after is rounds time commanded same in
    record {
      at_start = on.at_start;
      reached = subst (λ n. IsReached n M N) (sym rounds) (reached_on M L N old.rounds 1 reached_then (reached_by_round L N accepted after));
      history = history;
      rows = subst (AreRowsAmong M d history.taken) (sym rows) (rows_later M d on.history.taken _ old.rows.rows.items on.rows);
      retired = λ n there.
          since_more (is_retired_in L n) (has old.drained.items n) n old.rounds (length on.history.taken) (now / 1000000) (retirement_of old.retired.items n) (retirement_of new.retired.items n)
          (retired_since on.history.taken n) (ap (λ ns. has ns n) (sym drained) ∙ there) (answers n) (on.retired n (ap (λ ns. has ns n) (sym drained) ∙ there)) on.history.rounds;
    }

-- a row
pub noted_row : (ticks : Ticks) (M : State) (d : DataNodes) (N : State) (old new : Repair) (row : Row) → AreCounts N row.levels → row.round ≡ old.rounds → row.seconds ≡ old.time / 1000000
    → row.commanded ≡ old.commanded → row.on_way ≡ length old.datanodes.on_way.sent.items → 0 < old.rounds → AreLeveled N new.watch.blocks.items
    → ((taken : List RoundRecord) → AreRowsAmong M d taken old.rows.rows.items → IsRowAmong M d taken row → AreRowsAmong M d taken new.rows.rows.items) → EndsWith new.rows.rows.items row
    → new.rounds ≡ old.rounds → new.time ≡ old.time → new.commanded ≡ old.commanded → new.datanodes ≡ old.datanodes → new.drained ≡ old.drained → new.retired ≡ old.retired
    → IsUnderWay ticks M d N old → IsNoted ticks M d N new
noted_row ticks M d N old new row counts round seconds commanded on_way some blocks rows ends rounds now same_commanded same drained retired on =
    let taken = on.history.taken in
    let is = row_of ticks M d N old row on.history some round seconds counts commanded on_way in
    record {
      under_way = record {
        at_start = on.at_start;
        reached = subst (λ n. IsReached n M N) (sym rounds) on.reached;
        history = taken_alike ticks M d N old new on.history rounds now same_commanded same;
        rows = rows taken on.rows (record {
          later = [];
          before = taken;
          parts = refl;
          reached = subst (λ (S : State). IsReached row.round M S) on.history.state (subst (λ n. IsReached n M N) (sym round) on.reached);
          is = is;
        });
        retired = λ n there. ap (λ ts. retirement_of ts.items n) retired ∙ on.retired n (ap (λ ns. has ns.items n) (sym drained) ∙ there);
      };
      last = row;
      ends = ends;
      is_last = is;
      blocks = blocks;
    }

-- the last answers about nodes
pub ended : (ticks : Ticks) (M : State) (d : DataNodes) (N : State) (old new : Repair) (next : ℕ) → ((history : HasTaken ticks M d N old) → ComesAt ticks history.taken next)
    → AreAnswered N old.drained.items old.rounds (next / 1000000) old.retired.items new.retired.items
    → new.rounds ≡ old.rounds → new.time ≡ old.time → new.commanded ≡ old.commanded → new.datanodes ≡ old.datanodes → new.drained ≡ old.drained → new.rows ≡ old.rows → new.watch ≡ old.watch
    → IsNoted ticks M d N old → HasEnded ticks M d N new
ended ticks M d N old new next comes answers rounds now commanded same drained rows watch on =
    let under_way = on.under_way in
    let taken = under_way.history.taken in
    let there_before : (n : ℕ) → has new.drained.items n ≡ true → has old.drained.items n ≡ true = λ n there. ap (λ ns. has ns.items n) (sym drained) ∙ there in
    let since : (n : ℕ) → has new.drained.items n ≡ true → retirement_of new.retired.items n ≡ noted (is_retired_in N n) (retired_since taken n) (note_at n (length taken) (next / 1000000)) =
    λ n there.
    since_more (is_retired_in N n) (has old.drained.items n) n old.rounds (length taken) (next / 1000000) (retirement_of old.retired.items n) (retirement_of new.retired.items n)
    (retired_since taken n) (there_before n there) (answers n) (under_way.retired n (there_before n there)) under_way.history.rounds in
    record {
      reached = subst (λ n. IsReached n M N) (sym rounds) under_way.reached;
      history = taken_alike ticks M d N old new under_way.history rounds now commanded same;
      rows = subst (λ rs. AreRowsAmong M d taken rs.rows.items) (sym rows) under_way.rows;
      last = on.last;
      ends = subst (λ rs. EndsWith rs.rows.items on.last) (sym rows) on.ends;
      is_last = on.is_last;
      retired = record {
        next = next;
        comes = comes under_way.history;
        listed = λ n there. listed_if (is_retired_in N n) (retirement_of new.retired.items n) (retired_since taken n) (note_at n (length taken) (next / 1000000)) (since n there);
        since = since;
      };
      blocks = subst (λ w. AreLeveled N w.blocks.items) (sym watch) on.blocks;
    }
