use Rattle.std.proofs.Common.{◌≡◌, ◌<◌, ◌+◌, ℕ, true, List, length, inl, inr, sym, subst, ◌∙◌, arith}
use Rattle.std.specs.Prelude.{slice_index_or}
use Rattle.std.proofs.lemmas.Bool.{cases_eq, and_parts}
use Rattle.std.proofs.lemmas.Option.{same_Some, get_or_from_slice_get, slice_get-get_or, slice_get_within}
use Rattle.bm_levels.specs.declared.classification.BlockStatus.{BlockStatus}
use Rattle.bm_levels.specs.IndexedLevels.{IndexedLevels, HasStatus}
use Rattle.bm_levels.proofs.StatusUpdates.{among_in}
use Rattle.bm_levels.proofs.level_index.LevelIndex.have_same_status.Goals as goal

-- what is read within a list does not depend on the default
kept_here : (K : IndexedLevels) (x slot : ℕ) (k : BlockStatus) (js : List BlockStatus) (p : ℕ) (d default : BlockStatus) → HasStatus K x k → x ≡ slot → k ≡ slice_index_or js p d → p < length js → HasStatus K slot (slice_index_or js p default)
kept_here K x slot k js p d default h same is low =
    let read = is ∙ same_Some _ _ (sym (slice_get-get_or js p d low) ∙ slice_get-get_or js p default low) in
    subst (λ j. HasStatus K slot j) read (subst (λ z. HasStatus K z k) same h)

pub status_at-requires : goal.status_at-requires
status_at-requires c =
    let x = slice_index_or c.args.chunk.now c.loop-index.index 0 in
    let at = slice_get-get_or c.args.chunk.now c.loop-index.index 0 c.loop-index-test.true in
    record { capacity = (x + 1, omega arith, c.requires.capacity x (among_in x c.args.chunk.now c.loop-index.index at)) }

pub loop-index-preserved : goal.loop-index-preserved
loop-index-preserved c e i below slot default is =
    let both = and_parts c.loop-index.are_kept c.are_equal-are_kept.result e in
    elim (cases_eq i c.loop-index.index) [
      | inl here ↦
          let low : c.loop-index.index < length c.args.status.now = omega (arith, c.requires.few, c.loop-index-test.true) in
          let same = get_or_from_slice_get c.args.chunk.now c.loop-index.index slot 0 (rw here at is) in
          rw here (kept_here c.args.self.now _ slot c.status_at.result c.args.status.now c.loop-index.index _ default c.status_at.ensures same (c.are_equal-are_kept.ensures both.1) low)
      | inr differs ↦ let less : i < c.loop-index.index = omega arith in c.loop-index.invariant both.0 i less slot default is
    ]

pub returns : goal.returns
returns c e i slot default is =
    let low = slice_get_within c.args.chunk.now i slot is in
    c.loop-index.invariant e i (omega arith) slot default is
