-- Each number that the rest of a report names is one that the whole report names.
use Rattle.std.proofs.Common.{◌≡◌, ℕ, true, false, ◌+◌, ◌<◌, ◌≤◌, ◌||◌, List, ◌∷◌, ◌++◌, drop, Some, sym, ap, ◌∙◌, eq-eqb}
use Rattle.std.specs.Prelude.{◌==◌, slice_get}
use Rattle.std.proofs.lemmas.Bool.{false≢true}
use Rattle.std.proofs.lemmas.List.Folds.{list_any-append}
use Rattle.std.proofs.Math.Bool.{or-true}
use Rattle.bm_base.specs.declared.event.Entry.{Entry}
use Rattle.bm_base.specs.declared.ids.Part.{Part}
use Rattle.bm_base.specs.Words.{ReportedBlock, blocks_of_entry, expanded, is_named}
use Rattle.bm_base.specs.Shards.{shard_of}
use Rattle.bm_report.specs.ReportedBlocks.{of_part, reported_to_part}
use Rattle.bm_report.proofs.NumberRuns.{reported_from, reported_next, reported_rest, reported_both}

pub named_apart : (ts : List ReportedBlock) (b : ℕ) → is_named ts b ≡ false → is_named ts b ≡ true → ⊥
named_apart ts b out in_it = false≢true (sym out ∙ in_it)

named_first : (t : ReportedBlock) (ts : List ReportedBlock) (b : ℕ) → b ≡ t.id → is_named (t ∷ ts) b ≡ true
unfolding is_named
named_first t ts b same = ap (λ x. x || is_named ts b) (eq-eqb t.id b (sym same))

named_later : (t : ReportedBlock) (ts : List ReportedBlock) (b : ℕ) → is_named ts b ≡ true → is_named (t ∷ ts) b ≡ true
unfolding is_named
named_later t ts b in_it = ap (λ x. (t.id == b) || x) in_it ∙ or-true (t.id == b)

named_either : (ts us : List ReportedBlock) (b : ℕ) → is_named (ts ++ us) b ≡ (is_named ts b || is_named us b)
unfolding is_named
named_either ts us b = list_any-append (λ t. t.id == b) ts us

-- the next number of the part is named, and so is each later one
module _ (p : Part) (e : Entry) (next b : ℕ) (small : p.index < p.shards) (own : shard_of next p.shards ≡ p.index) (within : next ≤ e.to) where
  pub next_named : b ≡ next → is_named (of_part p (reported_from e next)) b ≡ true
  next_named same = ap (λ l. is_named l b) (reported_next p e next small own within) ∙ named_first (record { id = next; stamp = e.stamp }) (of_part p (reported_from e (next + p.shards))) b same

  pub later_named : is_named (of_part p (reported_from e (next + p.shards))) b ≡ true → is_named (of_part p (reported_from e next)) b ≡ true
  later_named in_it = ap (λ l. is_named l b) (reported_next p e next small own within) ∙ named_later (record { id = next; stamp = e.stamp }) (of_part p (reported_from e (next + p.shards))) b in_it

-- what one of two lists of entries names, both together name
module _ (p : Part) (es fs : List Entry) (b : ℕ) where
  either : is_named (reported_to_part p (es ++ fs)) b ≡ (is_named (reported_to_part p es) b || is_named (reported_to_part p fs) b)
  either = ap (λ l. is_named l b) (reported_both p es fs) ∙ named_either (reported_to_part p es) (reported_to_part p fs) b

  front_named : is_named (reported_to_part p es) b ≡ true → is_named (reported_to_part p (es ++ fs)) b ≡ true
  front_named in_it = either ∙ ap (λ x. x || is_named (reported_to_part p fs) b) in_it

  back_named : is_named (reported_to_part p fs) b ≡ true → is_named (reported_to_part p (es ++ fs)) b ≡ true
  back_named in_it = either ∙ ap (λ x. is_named (reported_to_part p es) b || x) in_it ∙ or-true (is_named (reported_to_part p es) b)

-- what a chunk names, the whole report names, and so it does what the entries after the chunk name
module _ (p : Part) (all rest chunk left : List Entry) (whole : rest ≡ chunk ++ left) (named : (b : ℕ) → is_named (reported_to_part p rest) b ≡ true → is_named (reported_to_part p all) b ≡ true) where
  pub chunk_named : (b : ℕ) → is_named (reported_to_part p chunk) b ≡ true → is_named (reported_to_part p all) b ≡ true
  chunk_named b in_it = named b (ap (λ es. is_named (reported_to_part p es) b) whole ∙ front_named p chunk left b in_it)

  pub left_named : (b : ℕ) → is_named (reported_to_part p left) b ≡ true → is_named (reported_to_part p all) b ≡ true
  left_named b in_it = named b (ap (λ es. is_named (reported_to_part p es) b) whole ∙ back_named p chunk left b in_it)

-- the next entry's numbers are named, and so are those of later entries
module _ (p : Part) (es : List Entry) (i : ℕ) (e : Entry) (b : ℕ) (at : slice_get es i ≡ Some e) where
  parts : is_named (of_part p (expanded (drop i es))) b ≡ (is_named (of_part p (blocks_of_entry e)) b || is_named (of_part p (expanded (drop (i + 1) es))) b)
  parts = ap (λ l. is_named l b) (reported_rest p es i e at) ∙ named_either (of_part p (blocks_of_entry e)) (of_part p (expanded (drop (i + 1) es))) b

  pub entry_named : is_named (of_part p (blocks_of_entry e)) b ≡ true → is_named (of_part p (expanded (drop i es))) b ≡ true
  entry_named in_it = parts ∙ ap (λ x. x || is_named (of_part p (expanded (drop (i + 1) es))) b) in_it

  pub rest_named : is_named (of_part p (expanded (drop (i + 1) es))) b ≡ true → is_named (of_part p (expanded (drop i es))) b ≡ true
  rest_named in_it = parts ∙ ap (λ x. is_named (of_part p (blocks_of_entry e)) b || x) in_it ∙ or-true (is_named (of_part p (blocks_of_entry e)) b)
