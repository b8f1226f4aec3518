use Rattle.std.proofs.Common.{sym, ◌∙◌}
use Rattle.bm_arena.proofs.Heads.{head-seen}
use Rattle.bm_arena.proofs.arena.Arena.has_head.Goals as goal

pub returns : goal.returns
returns c =
    let same = head-seen c.self.inside.slots c.self.inside.heads.entries c.storage.inside.0 c.contains_key.result c.contains_key.ensures in
    rw (← c.self.view_is, ← c.storage.view_is) (λ yes. sym same ∙ yes, λ there. same ∙ there)
