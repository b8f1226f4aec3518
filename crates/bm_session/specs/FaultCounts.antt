-- The content of a counted reader or writer.
use Rattle.std.specs.Prelude.{ℕ, Bool}
use Rattle.bm_session.specs.declared.whole_run.FaultCounting.{FaultCounting}

module _ {T : Type 0} where
  abbrev pub inner_of : FaultCounting T → T
  inner_of c = c.inner

  abbrev pub faults_of : FaultCounting T → ℕ
  faults_of c = c.faults

  abbrev pub last_of : FaultCounting T → ℕ
  last_of c = c.last

  abbrev pub is_flushed : FaultCounting T → Bool
  is_flushed c = c.is_flushed
