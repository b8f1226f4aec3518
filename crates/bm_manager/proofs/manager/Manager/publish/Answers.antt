use Rattle.std.proofs.Common.{◌≤◌, ap, sym, subst, ◌∙◌}
use Rattle.bm_base.specs.Promises.Versions.{Version, version}
use Rattle.bm_view.specs.History.{last_of}
use Rattle.bm_manager.proofs.manager.Manager.publish.Goals as goal

pub publish-requires : goal.publish-requires
unfolding version
publish-requires g c =
    subst (λ n. (last_of c.args.publisher.now.list).calls ≤ n) (sym (ap (λ (v : Version). v.calls) (c.in_ok-new.ensures.ok ∙ c.in_ok-table.ensures.version))) c.requires
