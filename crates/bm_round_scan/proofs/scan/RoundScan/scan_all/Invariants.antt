use Rattle.std.proofs.Common.{map, take}
use Rattle.bm_arena.specs.HeldMaps.{id_at}
use Rattle.bm_levels.specs.SlotHoldings.{holdings_with}
use Rattle.bm_round_scan.specs.BlockFindings.{HasFound}
use Rattle.bm_round_scan.proofs.scan.RoundScan.scan_all.Given as goal

abbrev pub invariant-loop-keyed : goal.invariant-loop-keyed
invariant-loop-keyed l = HasFound l.self.topology.now.cluster l.self.pend l.self.round (holdings_with l.self.arena.now l.self.pending.now.map) l.self.bound (map (λ e. id_at l.self.arena.now e.1) (take l.keyed-index l.slots)) l.found
