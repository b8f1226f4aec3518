use Rattle.std.proofs.Common.{sym, subst}
use Rattle.std.specs.Option.{IfSome}
use Rattle.bm_base.specs.Words.{keys, scheduled_to, least_target, least_target_by, target_cmp, is_target}
use Rattle.bm_place.specs.Least.{IsLeastOf}
use Rattle.bm_place.specs.ChoiceResults.{HasFreeBytesFor}
use Rattle.bm_place.proofs.BestElement.{least-bears}
use Rattle.bm_place.proofs.RowOrder.{target_cmp_total}
use Rattle.bm_place.proofs.LeastTarget.{has_enough_bytes, fits_row, on_kept_node, on_allowed_node, on_other_rack}
use Rattle.bm_place.proofs.target.least_target.Goals as goal

pub returns-clause-of_transfers : goal.returns-clause-of_transfers
unfolding least_target
returns-clause-of_transfers c chosen made = c.least_fitting.ensures (scheduled_to chosen) made

pub returns-clause-found : goal.returns-clause-found
unfolding least_target_by
returns-clause-found c sent made =
    let C = c.args.topology.now.cluster in
    let held = c.args.held.now in
    let excluded = c.args.excluded.now in
    let test = is_target C sent (record { urgency = c.args.level; holders = held; excluded = excluded; len = c.args.len }) in
    let chosen = c.least_fitting.ensures sent made in
    let least : IsLeastOf (target_cmp C sent held) test (keys C.storages) c.least_fitting.result =
    subst (IsLeastOf (target_cmp C sent held) test (keys C.storages)) (sym chosen) (least-bears (target_cmp C sent held) (target_cmp_total C sent held) test (keys C.storages)) in
    let enough_bytes = has_enough_bytes C sent c.args.level held excluded c.args.len c.least_fitting.result least in
    record {
      target = record {
        choice = chosen;
        least = least;
        enough_bytes = enough_bytes;
        not_excluded_node = on_allowed_node C sent c.args.level held excluded c.args.len c.least_fitting.result least;
        not_draining = on_kept_node C sent c.args.level held excluded c.args.len c.least_fitting.result least;
        other_rack = on_other_rack C sent c.args.level held excluded c.args.len c.least_fitting.result least;
      };
      fits = subst (λ T. IfSome c.least_fitting.result (HasFreeBytesFor T c.args.len)) (sym made) (fits_row C sent c.args.len c.least_fitting.result enough_bytes);
    }
