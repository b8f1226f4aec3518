use Rattle.std.proofs.Common.{refl}
use Rattle.bm_session.proofs.ProgressLemmas.{progress_none}
use Rattle.bm_session.proofs.session.Session.new.Goals as goal

pub returns-clause-ok : goal.returns-clause-ok
returns-clause-ok c = λ start. progress_none _ start _ c.new.ensures.holds c.in_ok-manager.ensures.ok refl refl
