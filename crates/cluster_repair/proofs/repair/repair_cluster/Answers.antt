use Rattle.std.proofs.Common.{◌≡◌, ◌∙◌, ◌+◌, sym, ap, filter, subst}
use Rattle.bm_base.specs.Words.{Cluster, knows_node}
use Rattle.cluster_repair.specs.declared.rows.Rows.{Rows}
use Rattle.cluster_repair.specs.declared.ticks.Ticks.{Ticks}
use Rattle.cluster_repair.specs.History.{AreAtStart, awaited_rounds}
use Rattle.cluster_repair.specs.Rows.{AreInOrder, HasEnded}
use Rattle.cluster_repair.specs.Ticks.{ticks_of}
use Rattle.cluster_repair.proofs.HistoryLemmas.{over_alike}
use Rattle.cluster_repair.proofs.Reach.{under_way_at_once}
use Rattle.cluster_repair.proofs.RowLemmas.{none_in_order}
use Rattle.cluster_repair.proofs.repair.repair_cluster.Goals as goal

pub returns-clause-done : goal.returns-clause-done
returns-clause-done g c =
    let M = c.args.session.now.manager in
    let start = c.in_ok-repair.ensures in
    let d = c.in_ok-repair.repair.datanodes in
    let ticks = c.ticks.result in
    let same : ticks ≡ ticks_of c.args.pace M.cluster = c.ticks.ensures ∙ ap (ticks_of c.args.pace) c.requires.cluster in
    let awaited : c.awaited_rounds.result ≡ awaited_rounds M.holdings.pending M.limits.pend =
    c.awaited_rounds.ensures ∙ ap (λ p. awaited_rounds p c.args.session.now.book.transfers.pend) c.requires.copies ∙ ap (awaited_rounds M.holdings.pending) c.requires.pend in
    let end = c.note_retired_at_end.new.self in
    let at_start = subst (λ (C : Cluster). AreAtStart C d) c.requires.cluster start.at_start in
    record {
      start = d;
      at_start = at_start;
      bandwidth = start.bandwidth;
      ended = subst (λ (t : Ticks). HasEnded t M d c.take_rounds.new.manager end) same
          (c.in_ok-note_retired_at_end.ensures.ended M d
          (c.in_ok-note_row.ensures.noted ticks M d
          (c.in_ok-take_rounds.ensures.under_way M d (record { cluster = c.requires.cluster; lists = c.requires.blocks; awaited = awaited })
          (under_way_at_once ticks M c.in_ok-repair.repair start.rows start.retired start.rounds start.time start.commanded at_start start.counts))));
      over = over_alike c.awaited_rounds.result (awaited_rounds M.holdings.pending M.limits.pend) c.take_rounds.new.self end
          awaited (c.note_retired_at_end.ensures.rounds ∙ c.note_row.ensures.rounds) (c.note_retired_at_end.ensures.datanodes ∙ c.note_row.ensures.datanodes) c.in_ok-take_rounds.ensures.over;
      in_order = subst (λ (rs : Rows). AreInOrder (end.rounds + 1) rs.stride rs.rows.items) (sym c.note_retired_at_end.ensures.rows)
          (subst (λ n. AreInOrder (n + 1) c.note_row.new.self.rows.stride c.note_row.new.self.rows.rows.items) (sym (c.note_retired_at_end.ensures.rounds ∙ c.note_row.ensures.rounds))
          (c.in_ok-note_row.ensures.in_order (c.in_ok-take_rounds.ensures.in_order
          (subst (λ n. AreInOrder n c.in_ok-repair.repair.rows.stride c.in_ok-repair.repair.rows.rows.items) (sym start.rounds)
          (subst (λ n. AreInOrder 0 n c.in_ok-repair.repair.rows.rows.items) (sym start.stride) (subst (AreInOrder 0 1) (sym start.rows) none_in_order))))));
    }

pub returns-clause-drained : goal.returns-clause-drained
returns-clause-drained g c =
    ap (λ v. v.items) (c.note_retired_at_end.ensures.drained ∙ c.note_row.ensures.drained ∙ c.take_rounds.ensures.drained) ∙ c.in_ok-repair.ensures.drained
    ∙ ap (λ (C : Cluster). filter (knows_node C) c.args.drained.now) c.requires.cluster
