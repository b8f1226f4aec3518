use Rattle.std.proofs.Common.{◌≡◌, filter, take}
use Rattle.std.specs.List.{flat_map}
use Rattle.bm_base.specs.Machine.RoundStart.{is_expired}
use Rattle.bm_pending.specs.Inside.{targets_at}
use Rattle.bm_pending.proofs.SortedTransfers.{named}
use Rattle.bm_pending.proofs.transfer_lists.list_expired.Given as goal

abbrev pub invariant-loop-block : goal.invariant-loop-block
invariant-loop-block l = l.all.items ≡ flat_map (λ b. named b (filter (λ t. is_expired l.pend l.round t.1) (targets_at l.blocks.entries b))) (take l.block-index l.block-items)
