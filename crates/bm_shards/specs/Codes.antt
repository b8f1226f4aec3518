-- A code, by which proofs distinguish views of all shards.
use Rattle.std.specs.Prelude.{ℕ, List, refl}
use Rattle.std.specs.Coded.{Coded, code_by, coded×, coded_ℕ, coded_list}
use Rattle.bm_base.specs.Machine.State.{Holdings}
use Rattle.bm_base.specs.Codes.{coded_holdings}
use Rattle.bm_shard.specs.ShardView.{Seen}
use Rattle.bm_shard.specs.Codes.{coded_seen}
use Rattle.bm_shards.specs.Whole.{Whole}

abbrev pub coded_whole : Coded Whole
coded_whole =
    code_by (Holdings × List (ℕ × Seen)) (coded× coded_holdings (coded_list (coded× coded_ℕ coded_seen))) (λ F. (F.holdings, F.shards))
    (λ t. record { holdings = t.0; shards = t.1 }) (λ _. refl)
