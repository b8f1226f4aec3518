-- Arenas with equal blocks and equal replicas have equal holdings.
use Rattle.std.proofs.Common.{◌≡◌}
use Rattle.bm_base.specs.Maps.Map.{empty}
use Rattle.bm_arena.specs.Contents.{Contents}
use Rattle.bm_arena.specs.HeldMaps.{replicas_of, blocks_of, holdings_of}

-- equal blocks and replicas make equal holdings
pub same_holdings : (a c : Contents) → replicas_of c ≡ replicas_of a → blocks_of c ≡ blocks_of a → holdings_of c ≡ holdings_of a
unfolding holdings_of
same_holdings a c replicas blocks = λ i. record { blocks = blocks i; replicas = replicas i; pending = empty }
