-- Only registrations, heartbeats and reports have a list.
use Rattle.std.proofs.Common.{◌≡◌, ◌≢◌, false, refl}
use Rattle.bm_lines.specs.declared.parser.op.Op.{Op}
use Rattle.bm_lines.specs.declared.parser.op.Op.TheVariants.{Register, Heartbeat, Report}
use Rattle.bm_lines.specs.Parser.Op.{has_list}

pub without_list : (o : Op) → o ≢ Register → o ≢ Heartbeat → o ≢ Report → has_list o ≡ false
without_list Register a b c = absurd (a refl)
without_list Heartbeat a b c = absurd (b refl)
without_list Report a b c = absurd (c refl)
without_list _ a b c = refl
