use Rattle.std.proofs.Common.{◌∙◌, ap, length, arith}
use Rattle.bm_base.specs.Maps.Map.{get}
use Rattle.bm_base.specs.Words.{is_multi_rack, missing_blocks}
use Rattle.cluster_losses.specs.LackingBytes.{free_for_copies, lacking_bytes}
use Rattle.cluster_losses.specs.Outcomes.{levels_by}
use Rattle.cluster_losses.proofs.Counts.{all_lacking, all_levels, capped}
use Rattle.cluster_losses.proofs.cluster_counts.count_cluster.Goals as goal

pub returns : goal.returns
returns c =
    let M = c.args.session.now.manager in
    let p = c.in_ok-pass.pass in
    let row_of = get c.new-rows.result.map in
    let lacking = all_lacking M row_of 0 p c.show_invariant.ensures c.in_ok-pass.ensures.whole in
    let small = c.in_ok-pass.ensures.within.all.lacking in
    record {
      levels =
          c.levels_by.ensures
          ∙ (λ i. levels_by p.all ((c.multi_rack-is_multi.ensures ∙ ap is_multi_rack c.requires.cluster) i) ((c.len.ensures ∙ ap length c.in_ok-missing.ensures.missing) i))
          ∙ all_levels M row_of 0 (length (missing_blocks M.cluster M.holdings)) p c.show_invariant.ensures c.in_ok-pass.ensures.whole;
      missing = c.in_ok-missing.ensures.missing;
      lacking = capped (lacking_bytes M) p.all.lacking lacking (omega (arith, lacking, small));
      free = c.in_ok-free.ensures ∙ ap free_for_copies c.requires.cluster;
    }
