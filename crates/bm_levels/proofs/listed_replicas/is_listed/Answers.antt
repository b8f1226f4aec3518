use Rattle.std.proofs.Common.{rules, ◌∙◌}
use Rattle.std.proofs.lemmas.List.Sorted.{answers_always}
use Rattle.bm_base.specs.declared.replica.ReplicaId.{ReplicaId}
use Rattle.bm_levels.proofs.GroupedReplicas.{storage_searched}
use Rattle.bm_levels.proofs.listed_replicas.is_listed.Goals as goal

pub returns : goal.returns
returns c =
    let facts = c.binary_search_by_key-found.ensures in
    let by_key = facts.position (λ (p : ReplicaId). p.storage) (answers_always _ _ _ (λ f a r g called. search rules)) in
    c.is_ok.ensures.value ∙ storage_searched c.args.listed.now c.requires c.args.storage c.binary_search_by_key-found.result facts.bound by_key
