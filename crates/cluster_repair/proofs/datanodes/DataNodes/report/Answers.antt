use Rattle.std.proofs.Common.{◌∙◌, List, refl, ap}
use Rattle.std.specs.List.{fold}
use Rattle.bm_base.specs.declared.commands.Delete.{Delete}
use Rattle.cluster_report.specs.Catalogues.{len_in}
use Rattle.cluster_repair.specs.Reports.{free_after}
use Rattle.cluster_repair.specs.LinkModel.{free_on}
use Rattle.cluster_repair.proofs.Reach.{reported_in_turn}
use Rattle.cluster_repair.proofs.datanodes.DataNodes.report.Goals as goal

pub returns-clause-reported : goal.returns-clause-reported
returns-clause-reported g c =
    let reported = reported_in_turn c.in_ok-due.due.items c.as_slice.result.now c.args.self.now.deletes.items c.as_slice-2.result.now c.give_back_deleted.new.free
    c.args.manager.now c.report_copies.new.manager c.report_deletes.new.manager c.report_free.new.manager
    c.args.watch.now.blocks.items c.report_copies.new.watch.blocks.items c.report_deletes.new.watch.blocks.items
    c.as_slice.ensures.value c.as_slice-2.ensures.value c.in_ok-report_copies.ensures c.in_ok-report_deletes.ensures c.in_ok-report_free.ensures in
    record {
      due = c.in_ok-due.due.items;
      are_due = record { all = c.in_ok-due.ensures.due; sorted = c.in_ok-due.ensures.sorted };
      state = reported.state;
      reached = reported.reached;
      free = λ s.
          c.in_ok-give_back_deleted.ensures.free s
          ∙ ap (λ (ds : List Delete). fold (free_after (len_in c.args.blocks.now) s) (free_on c.args.self.now.free s) ds) c.as_slice-3.ensures.value;
      nodes = c.give_back_deleted.ensures.nodes;
      storages = c.give_back_deleted.ensures.storages;
      deletes = c.clear.ensures.items;
      on_way = c.in_ok-due.ensures.left;
      next = c.take_due.ensures.next;
      links = refl;
    }

pub returns-clause-covers : goal.returns-clause-covers
returns-clause-covers g c =
    let reported = reported_in_turn c.in_ok-due.due.items c.as_slice.result.now c.args.self.now.deletes.items c.as_slice-2.result.now c.give_back_deleted.new.free
    c.args.manager.now c.report_copies.new.manager c.report_deletes.new.manager c.report_free.new.manager
    c.args.watch.now.blocks.items c.report_copies.new.watch.blocks.items c.report_deletes.new.watch.blocks.items
    c.as_slice.ensures.value c.as_slice-2.ensures.value c.in_ok-report_copies.ensures c.in_ok-report_deletes.ensures c.in_ok-report_free.ensures in
    reported.covers
