-- The configuration from the five numbers that are read.
use Rattle.std.proofs.Common.{◌≡◌, ◌∙◌, ◌≤◌, ap, codes, refl, sym, arith, true, ℕ, List, map, None}
use Rattle.std.specs.Prelude.{string_bytes}
use Rattle.clap.specs.Walk.{Text}
use Rattle.clap.specs.Simple.{App, app_of}
use Rattle.clap.specs.Faults.{fault_of, is_simple_and_free}
use Rattle.bm_base.specs.Machine.Configuration.{config_refusal, is_allowed, is_up_to}
use Rattle.bm_base.specs.declared.config.Config.{Config}
use Rattle.bm_tool.specs.Options.{configured_by, tool}
use Rattle.bm_tool.proofs.OptionNumbers.{IsGiven, option_number, shards_index, workers_index, work_index, invalidate_index, pend_index}
use Rattle.bm_tool.proofs.options.config_of.Goals as goal

record AllGiven (words : List Text) (c : Config) : Type 0 where
  pub shards : IsGiven (codes "shards") (codes "1") 64 words c.shards
  pub workers : IsGiven (codes "workers") (codes "1") 16 words c.workers
  pub work : IsGiven (codes "work") (codes "2") 1000 words c.work
  pub invalidate : IsGiven (codes "invalidate") (codes "1000") 1000000 words c.invalidate
  pub pend : IsGiven (codes "pend") (codes "100") 1000000 words c.pend
  pub first_round : c.first_round ≡ 0
  pub first_call : c.first_call ≡ 0

is_configured : (words : List Text) (c : Config) → AllGiven words c → c ≡ configured_by words
is_configured words c g = λ i. record {
  shards = g.shards.number i;
  workers = g.workers.number i;
  work = g.work.number i;
  invalidate = g.invalidate.number i;
  pend = g.pend.number i;
  first_round = g.first_round i;
  first_call = g.first_call i;
}

up_to : (most n : ℕ) → 1 ≤ n → n ≤ most → is_up_to most n ≡ true
up_to most n least at_most = grind arith

within : (words : List Text) (c : Config) → AllGiven words c → config_refusal c ≡ None
within words c g =
    let all : is_allowed c ≡ true = rw (
      up_to 64 c.shards g.shards.least g.shards.at_most,
      up_to 16 c.workers g.workers.least g.workers.at_most,
      up_to 1000 c.work g.work.least g.work.at_most,
      up_to 1000000 c.invalidate g.invalidate.least g.invalidate.at_most,
      up_to 1000000 c.pend g.pend.least g.pend.at_most,
    ) refl in
    rw all refl

pub returns : goal.returns
returns c =
    let words = map string_bytes c.args.words.now in
    let is : app_of c.in_ok-command.command ≡ tool = c.in_ok-command.ensures in
    let parsed = c.in_ok-matches.ensures.parsed in
    let matches = c.in_ok-matches.ensures.matches in
    let cmd = c.in_ok-command.command in
    let m = c.in_ok-matches.matches in
    let read = c.config_from.ensures in
    let given : AllGiven words c.config_from.result = record {
      shards = option_number words cmd m is parsed matches _ _ _ shards_index _ read.shards;
      workers = option_number words cmd m is parsed matches _ _ _ workers_index _ read.workers;
      work = option_number words cmd m is parsed matches _ _ _ work_index _ read.work;
      invalidate = option_number words cmd m is parsed matches _ _ _ invalidate_index _ read.invalidate;
      pend = option_number words cmd m is parsed matches _ _ _ pend_index _ read.pend;
      first_round = read.counts.0;
      first_call = read.counts.1;
    } in
    record {
      exact = is_configured words c.config_from.result given;
      allowed = within words c.config_from.result given;
      refused = sym (ap (λ (a : App). fault_of a words) is) ∙ c.in_ok-matches.ensures.kinds (ap is_simple_and_free is);
    }
