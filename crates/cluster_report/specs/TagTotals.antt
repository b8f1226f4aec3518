-- Replicas counted by tag, and their blocks.
use Rattle.std.specs.Prelude.{ℕ, Bool, not, nat_eq, List, map, filter, count_by, sum_by, if◌then◌else◌}
use Rattle.std.specs.List.{dedup}
use Rattle.bm_base.specs.declared.replica.Replica.{Replica}
use Rattle.bm_base.specs.Machine.Replicas.{is_good, is_stale, is_bad, is_stray}
use Rattle.bm_base.specs.declared.replica.Tag.{Tag}
use Rattle.cluster_report.specs.declared.tag_counts.TagBytes.{TagBytes}
use Rattle.cluster_report.specs.declared.tag_counts.TagCounts.{TagCounts}

-- the number of these replicas of each tag
abbrev pub tags_counted : List Replica → TagCounts
tags_counted rs = record {
  good = count_by (λ r. is_good r.tag) rs;
  stale = count_by (λ r. is_stale r.tag) rs;
  bad = count_by (λ r. is_bad r.tag) rs;
  stray = count_by (λ r. is_stray r.tag) rs;
}

-- the bytes of the replicas whose tag passes, by the lengths of blocks
abbrev pub bytes_where : (ℕ → ℕ) → (Tag → Bool) → List Replica → ℕ
bytes_where len p rs = sum_by (λ r. if p r.tag then len r.block else 0) rs

-- the bytes of each tag; the length of a stray replica is unknown
abbrev pub tag_bytes : (ℕ → ℕ) → List Replica → TagBytes
tag_bytes len rs = record {
  good = bytes_where len is_good rs;
  stale = bytes_where len is_stale rs;
  bad = bytes_where len is_bad rs;
}

-- the blocks of these replicas, without the stray ones
abbrev pub known_numbers : List Replica → List ℕ
known_numbers rs = map (λ r. r.block) (filter (λ r. not (is_stray r.tag)) rs)

-- the blocks of these replicas, without the stray ones; of equal neighbours only one
abbrev pub blocks_held : List Replica → List ℕ
blocks_held rs = dedup nat_eq (known_numbers rs)
