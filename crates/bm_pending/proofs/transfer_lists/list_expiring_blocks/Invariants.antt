use Rattle.std.proofs.Common.{◌≡◌, filter, map}
use Rattle.std.specs.List.{list_any}
use Rattle.std.specs.Map.{keys_of}
use Rattle.std.specs.Map.Iter.{deref_pair}
use Rattle.bm_base.specs.Machine.RoundStart.{is_expired}
use Rattle.bm_pending.proofs.transfer_lists.list_expiring_blocks.Given as goal

abbrev pub invariant-loop-block : goal.invariant-loop-block
invariant-loop-block l = l.numbers.items ≡ keys_of (filter (λ e. list_any (λ t. is_expired l.pend l.round t.1) e.1.items) (map deref_pair l.yielded))
