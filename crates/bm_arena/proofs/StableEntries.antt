-- List operations and new marks keep each entry's slot, number, information and capacity.
use Rattle.std.proofs.Common.{◌≡◌, ℕ, List, IsSome, refl, subst, inl, inr, sym, ap, ◌∙◌}
use Rattle.std.specs.Prelude.{nat_eq}
use Rattle.std.specs.Option.{option_map_or}
use Rattle.std.specs.Map.{lookup}
use Rattle.std.proofs.lemmas.Bool.{cases_eq}
use Rattle.bm_arena.specs.Triplets.{Block}
use Rattle.bm_base.specs.declared.replica.Marks.{Marks}
use Rattle.bm_arena.specs.Contents.{Contents, with_marks, block_at, known_of, KeepsOthers, KeepsAllBut, KeepsEntries}
use Rattle.bm_arena.proofs.ChangedBlock.{keeps-changed}
use Rattle.bm_arena.proofs.SetMarks.{set_at, set-known}

pub entries-none : (a : Contents) → KeepsEntries a a
entries-none a = record { ids = refl; known = λ x. refl; capacity = λ x. refl; heads = λ t h. h; delimiter = refl; bound = refl }

pub entries-chain : (a b c : Contents) → KeepsEntries a b → KeepsEntries b c → KeepsEntries a c
entries-chain a b c f g = record {
  ids = g.ids ∙ f.ids;
  known = λ x. g.known x ∙ f.known x;
  capacity = λ x. g.capacity x ∙ f.capacity x;
  heads = λ t h. g.heads t (f.heads t h);
  delimiter = g.delimiter ∙ f.delimiter;
  bound = g.bound ∙ f.bound;
}

pub entries-others : (a c : Contents) (slot s : ℕ) → KeepsOthers a c slot s → KeepsEntries a c
entries-others a c slot s others = record {
  ids = others.ids;
  known = λ x. elim (cases_eq x slot) [ inl same ↦ rw same others.known | inr differs ↦ ap known_of (others.blocks x differs) ];
  capacity = λ x. elim (cases_eq x slot) [ inl same ↦ rw same others.capacity | inr differs ↦ ap (λ o. option_map_or (λ (b : Block). b.capacity) o 0) (others.blocks x differs) ];
  heads = others.heads;
  delimiter = others.delimiter;
  bound = others.bound;
}

pub entries-set : (a c : Contents) (slot : ℕ) → KeepsAllBut slot a c → known_of (block_at c slot) ≡ known_of (block_at a slot) → KeepsEntries a c
entries-set a c slot rest known = record {
  ids = rest.ids;
  known = λ x. elim (cases_eq x slot) [ inl same ↦ rw same known | inr differs ↦ ap known_of (rest.blocks x differs) ];
  capacity = rest.capacity;
  heads = λ t h. let P : List (ℕ × List ℕ) → Type 0 = λ l. IsSome (lookup (nat_eq t) l) in subst P (sym rest.lists) h;
  delimiter = rest.delimiter;
  bound = rest.bound;
}

-- setting the marks of a replica keeps the entries
pub set-entries : (a : Contents) (slot s : ℕ) (m : Marks) → KeepsEntries a (set_at a slot s m)
set-entries a slot s m = entries-set a (set_at a slot s m) slot (keeps-changed a slot (with_marks s m) (λ b. refl)) (set-known a slot s m)
