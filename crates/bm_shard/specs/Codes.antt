-- Codes, by which proofs distinguish views of a shard.
use Rattle.std.specs.Prelude.{◌≡◌, ◌⊎◌, ℕ, refl, List, Option}
use Rattle.std.proofs.Common.{inl, inr}
use Rattle.std.specs.Coded.{Coded, code_by, coded×, coded⊎, coded_ℕ, coded_list, coded_option}
use Rattle.bm_base.specs.declared.replica.Level.{Level}
use Rattle.bm_base.specs.declared.ids.Part.{Part}
use Rattle.bm_base.specs.declared.replica.Stamp.{Stamp}
use Rattle.bm_base.specs.Words.{Map, by_number, Holdings, ReportedBlock, level_number}
use Rattle.bm_base.specs.Maps.MapCode.{code}
use Rattle.bm_base.specs.Codes.{coded_holdings, coded_stamp}
use Rattle.bm_base.specs.LevelNumbers.{level_of_number, level_again}
use Rattle.bm_shard.specs.ShardView.{Seen, Reserved, LookUp, NoticeOf, ReportOf}

abbrev pub coded_level : Coded Level
coded_level = code_by ℕ coded_ℕ level_number level_of_number level_again

abbrev pub coded_part : Coded Part
coded_part = code_by (ℕ × ℕ) (coded× coded_ℕ coded_ℕ) (λ p. (p.index, p.shards)) (λ t. record { index = t.0; shards = t.1 }) (λ _. refl)

abbrev pub coded_reported : Coded ReportedBlock
coded_reported = code_by (ℕ × Stamp) (coded× coded_ℕ coded_stamp) (λ t. (t.id, t.stamp)) (λ t. record { id = t.0; stamp = t.1 }) (λ _. refl)

abbrev cases : LookUp → (ℕ × List ReportedBlock) ⊎ (ℕ × List ReportedBlock)
cases (NoticeOf s ts) = inl (s, ts)
cases (ReportOf s ts) = inr (s, ts)

abbrev look_up : (ℕ × List ReportedBlock) ⊎ (ℕ × List ReportedBlock) → LookUp
look_up (inl t) = NoticeOf t.0 t.1
look_up (inr t) = ReportOf t.0 t.1

pub look_up_again : (l : LookUp) → look_up (cases l) ≡ l
look_up_again (NoticeOf s ts) = refl
look_up_again (ReportOf s ts) = refl

abbrev pub coded_look_up : Coded LookUp
coded_look_up = code_by ((ℕ × List ReportedBlock) ⊎ (ℕ × List ReportedBlock)) (coded⊎ (coded× coded_ℕ (coded_list coded_reported)) (coded× coded_ℕ (coded_list coded_reported))) cases look_up look_up_again

abbrev pub coded_reserved : Coded Reserved
coded_reserved =
    code_by ((List ℕ × List ℕ) × (Option LookUp × List (ℕ × ℕ)))
    (coded× (coded× (coded_list coded_ℕ) (coded_list coded_ℕ)) (coded× (coded_option coded_look_up) (coded_list (coded× coded_ℕ coded_ℕ))))
    (λ r. ((r.entries, r.lists), (r.report, r.transfers))) (λ t. record { entries = t.0.0; lists = t.0.1; report = t.1.0; transfers = t.1.1 }) (λ _. refl)

abbrev pub coded_seen : Coded Seen
coded_seen =
    code_by ((Holdings × Part) × ((ℕ × ℕ) × (Map by_number Level × Reserved)))
    (coded× (coded× coded_holdings coded_part) (coded× (coded× coded_ℕ coded_ℕ) (coded× (code coded_ℕ coded_level) coded_reserved)))
    (λ S. ((S.holdings, S.part), ((S.round, S.pend), (S.levels, S.reserved))))
    (λ t. record { holdings = t.0.0; part = t.0.1; round = t.1.0.0; pend = t.1.0.1; levels = t.1.1.0; reserved = t.1.1.1 }) (λ _. refl)
