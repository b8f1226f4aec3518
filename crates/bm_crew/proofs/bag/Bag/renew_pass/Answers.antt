use Rattle.std.proofs.Common.{ap, ◌∙◌}
use Rattle.bm_crew.proofs.BagRule.{merges, renews}
use Rattle.bm_crew.proofs.bag.Bag.renew_pass.Goals as goal

pub absorb-requires-clause-rule : goal.absorb-requires-clause-rule
absorb-requires-clause-rule g c = merges _ _ _ _ c.requires.caller.leads c.requires.helper.helps c.requires.helper.unjoined

pub another-pass-requires-clause-rule : goal.another-pass-requires-clause-rule
another-pass-requires-clause-rule g c = renews _ _ (ap (λ v. v.is_caller) c.absorb.ensures.rule ∙ c.requires.caller.leads)
