use Rattle.std.proofs.Common.{◌≡◌, length}
use Rattle.std.specs.Str.{IsUtf8}
use Rattle.fsck_text.specs.Lists.{listed_replicas}
use Rattle.fsck_text.proofs.ListLemmas.{prefixed}
use Rattle.fsck_text.proofs.list.listed_replicas.Given as goal

-- the replicas of the list are those so far and those of the rest
abbrev pub invariant-loop-item : goal.invariant-loop-item
invariant-loop-item l = record {
  all : listed_replicas l.text ≡ prefixed l.list (listed_replicas l.rest);
  utf8 : IsUtf8 l.rest;
}

abbrev pub decreases-loop-item : goal.decreases-loop-item
decreases-loop-item l = length l.rest
