use Rattle.std.proofs.Common.{◌≡◌, Some}
use Rattle.puljemrod.proofs.events.puljemrod_heartbeat.Goals as goal

pub returns : goal.returns
returns c =
    let same : c.args.slot.now.handle.kept ≡ Some c.deref_mut.result.now = cc (c.in-Some.ensures.some, c.deref_mut.ensures.value) in
    rw same (_, c.put.ensures, c.take_heartbeat-code.ensures)
