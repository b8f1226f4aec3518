-- A look-up keeps the slots and the capacity of the numbers that were looked up before it.
use Rattle.std.proofs.Common.{◌≡◌, ◌≢◌, ℕ, ◌<◌, ◌≤◌, List, [], ◌∷◌, ◌++◌, length, Option, Some, None, is_some, IsSome, refl, subst, inl, inr, sym, ap, ◌∙◌, arith}
use Rattle.std.specs.Prelude.{nat_eq, IsSomeAnd}
use Rattle.std.specs.Option.{option_map, option_map_or, option_and_then, unwrap_or}
use Rattle.std.specs.Map.{lookup}
use Rattle.std.proofs.lemmas.Bool.{cases_eq, false≢true}
use Rattle.std.proofs.lemmas.Option.{none-some}
use Rattle.bm_arena.specs.Triplets.{Block, change_block}
use Rattle.bm_arena.specs.Contents.{Contents, block_at, slot_of, marks_at, find_marks, entry_capacity, with_entry_capacity, HasCapacity, IsAdded, IsReserved, IsLawful}
use Rattle.bm_arena.proofs.MoreCapacity.{capacity-here, capacity-elsewhere, capacity-blind, capacity-marks}
use Rattle.bm_report.specs.declared.types.ReportedSlot.{ReportedSlot}
use Rattle.bm_arena.specs.HeldMaps.{info_at}
use Rattle.bm_report.specs.DuringReport.{AreAtSlots, HaveCapacity}
use Rattle.bm_report.specs.ReportedBlocks.{IsPrepared}
use Rattle.bm_arena.proofs.HeldReplicas.{same_replicas, same_blocks, under}
use Rattle.bm_arena.proofs.SetInfo.{added-held, added-same, added-replicas, added-blocks}

-- a block with its own capacity is the same block
kept_capacity : (c : Contents) (x : ℕ) (b : Block) → block_at c x ≡ Some b → block_at c x ≡ Some (with_entry_capacity (entry_capacity c x) b)
kept_capacity c x b e = let r : b.capacity ≡ entry_capacity c x = sym (ap (λ o. option_map_or (λ (k : Block). k.capacity) o 0) e) in e ∙ (λ i. Some (with_entry_capacity (r i) b))

pub prepared-none : (a : Contents) → IsPrepared a a
prepared-none a = record {
  replicas = refl;
  blocks = refl;
  lists = λ t. refl;
  heads = λ t h. h;
  delimiter = refl;
  steps = refl;
  slots = λ b x h. h;
  held = λ x h. h;
  marks = λ x t h. refl;
  capacity = λ x p h. h;
  entries = kept_capacity a;
  grows = λ x. omega arith;
  bound = omega arith;
}

pub prepared-chain : (a b c : Contents) → IsPrepared a b → IsPrepared b c → IsPrepared a c
prepared-chain a b c f g = record {
  replicas = g.replicas ∙ f.replicas;
  blocks = g.blocks ∙ f.blocks;
  lists = λ t. g.lists t ∙ f.lists t;
  heads = λ t h. g.heads t (f.heads t h);
  delimiter = g.delimiter ∙ f.delimiter;
  steps = g.steps ∙ f.steps;
  slots = λ k x h. g.slots k x (f.slots k x h);
  held = λ x h. g.held x (f.held x h);
  marks = λ x t h. g.marks x t (f.held x h) ∙ f.marks x t h;
  capacity = λ x p h. g.capacity x (λ e. p (e ∙ f.delimiter)) (f.capacity x p h);
  entries = λ x k e. g.entries x (with_entry_capacity (entry_capacity b x) k) (f.entries x k e);
  grows = λ x. let p = f.grows x in let q = g.grows x in omega (arith, p, q);
  bound = omega (arith, f.bound, g.bound);
}

-- a slot gets more capacity
module _ (a c : Contents) (slot capacity : ℕ) (is : c ≡ record a { blocks = change_block (with_entry_capacity capacity) a.blocks slot }) (grows : entry_capacity a slot ≤ capacity) where
  abbrev enlarged : Contents
  enlarged = record a { blocks = change_block (with_entry_capacity capacity) a.blocks slot }

  enlarged_here : block_at enlarged slot ≡ option_map (with_entry_capacity capacity) (block_at a slot)
  enlarged_here = capacity-here a slot capacity

  enlarged_other : (x : ℕ) → x ≢ slot → block_at enlarged x ≡ block_at a x
  enlarged_other = capacity-elsewhere a slot capacity

  prepared_enlarged : IsPrepared a enlarged
  prepared_enlarged = record {
    replicas = same_replicas a enlarged (λ q. under (λ k. marks_at enlarged k q.storage) (λ k. marks_at a k q.storage) (slot_of a q.block) (λ x. capacity-marks a slot capacity x q.storage));
    blocks = same_blocks a enlarged (λ b. under (λ k. info_at enlarged k) (λ k. info_at a k) (slot_of a b) (λ x. capacity-blind a slot capacity (λ (k : Block). k.info) (λ k. refl) x));
    lists = λ t. refl;
    heads = λ t h. h;
    delimiter = refl;
    steps = refl;
    slots = λ b x h. h;
    held = λ x h. elim (cases_eq x slot) [
      | inl here ↦
          let P : Option Block → Type 0 = λ o. IsSome o in
          let h_here : IsSome (block_at a slot) = let Q : ℕ → Type 0 = λ k. IsSome (block_at a k) in subst Q here h in
          rw here (subst P (sym enlarged_here) (still (block_at a slot) h_here))
      | inr other ↦ let P : Option Block → Type 0 = λ o. IsSome o in subst P (sym (enlarged_other x other)) h
    ];
    marks = λ x t h. capacity-marks a slot capacity x t;
    capacity = λ x apart h. elim (cases_eq x slot) [
      | inl here ↦
          let P : Option Block → Type 0 = λ o. IsSomeAnd o (λ (b : Block). length b.replicas < b.capacity) in
          let h_here : HasCapacity a slot = let Q : ℕ → Type 0 = λ k. HasCapacity a k in subst Q here h in
          rw here (subst P (sym enlarged_here) (more (block_at a slot) grows h_here))
      | inr other ↦
          let P : Option Block → Type 0 = λ o. IsSomeAnd o (λ (b : Block). length b.replicas < b.capacity) in
          subst P (sym (enlarged_other x other)) h
    ];
    entries = λ x b e. elim (cases_eq x slot) [
      | inl here ↦
          let e_here : block_at a slot ≡ Some b = ap (block_at a) (sym here) ∙ e in
          rw here (kept_capacity enlarged slot (with_entry_capacity capacity b) (enlarged_here ∙ ap (option_map (with_entry_capacity capacity)) e_here))
      | inr other ↦ kept_capacity enlarged x b (enlarged_other x other ∙ e)
    ];
    grows = λ x. elim (cases_eq x slot) [
      | inl here ↦
          let now : entry_capacity enlarged slot ≡ option_map_or (λ (b : Block). b.capacity) (option_map (with_entry_capacity capacity) (block_at a slot)) 0 = ap (λ o. option_map_or (λ (b : Block). b.capacity) o 0) enlarged_here in
          let no_less = larger (block_at a slot) grows in
          rw here (omega (arith, now, no_less))
      | inr other ↦ let same : entry_capacity enlarged x ≡ entry_capacity a x = ap (λ o. option_map_or (λ (b : Block). b.capacity) o 0) (enlarged_other x other) in omega (arith, same)
    ];
    bound = omega arith;
  }
    where
      larger : (o : Option Block) → option_map_or (λ (b : Block). b.capacity) o 0 ≤ capacity → option_map_or (λ (b : Block). b.capacity) o 0 ≤ option_map_or (λ (b : Block). b.capacity) (option_map (with_entry_capacity capacity) o) 0
      larger None g = omega arith
      larger (Some b) g = g

      still : (o : Option Block) → IsSome o → IsSome (option_map (with_entry_capacity capacity) o)
      still None h = absurd (false≢true h)
      still (Some b) h = refl

      more : (o : Option Block) → option_map_or (λ (b : Block). b.capacity) o 0 ≤ capacity → IsSomeAnd o (λ (b : Block). length b.replicas < b.capacity)
          → IsSomeAnd (option_map (with_entry_capacity capacity) o) (λ (b : Block). length b.replicas < b.capacity)
      more None g h = h
      more (Some b) g h = omega (arith, g, h)

  pub prepared-capacity : IsPrepared a c
  prepared-capacity = let P : Contents → Type 0 = λ x. IsPrepared a x in subst P (sym is) prepared_enlarged

-- a new number gets an entry
module _ (a c : Contents) (id slot : ℕ) (lawful : IsLawful a) (new : slot_of a id ≡ None) (added : IsAdded a c id slot) where
  pub prepared-added : IsPrepared a c
  prepared-added = record {
    replicas = added-replicas a c id slot lawful new added;
    blocks = added-blocks a c id slot lawful new added;
    lists = λ t. ap (λ l. unwrap_or (lookup (nat_eq t) l) []) added.lists;
    heads = λ t h. let P : List (ℕ × List ℕ) → Type 0 = λ l. IsSome (lookup (nat_eq t) l) in subst P (sym added.lists) h;
    delimiter = added.delimiter;
    steps = added.steps;
    slots = λ b x h. added-same a c id slot lawful new added b (λ same. none-some x (sym new ∙ ap (slot_of a) (sym same) ∙ h)) ∙ h;
    held = λ x h. let P : Option Block → Type 0 = λ o. IsSome o in subst P (sym (added.others x (held x h))) h;
    marks = λ x t h. ap (λ o. option_and_then (λ (b : Block). find_marks b.replicas t) o) (added.others x (held x h));
    capacity = λ x apart h.
        let P : Option Block → Type 0 = λ o. IsSomeAnd o (λ (b : Block). length b.replicas < b.capacity) in
        subst P (sym (added.others x (held x (enlarged_held (block_at a x) h)))) h;
    entries = λ x b e. kept_capacity c x b (added.others x (held x (ap is_some e)) ∙ e);
    grows = λ x. elim (cases_eq x slot) [
      | inl here ↦ let none : entry_capacity a slot ≡ 0 = ap (λ o. option_map_or (λ (b : Block). b.capacity) o 0) added.vacant in rw here (omega (arith, none))
      | inr other ↦ let same : entry_capacity c x ≡ entry_capacity a x = ap (λ o. option_map_or (λ (b : Block). b.capacity) o 0) (added.others x other) in omega (arith, same)
    ];
    bound = omega (arith, added.bound);
  }
    where
      held : (x : ℕ) → IsSome (block_at a x) → x ≢ slot
      held = added-held a c id slot lawful new added

      enlarged_held : (o : Option Block) → IsSomeAnd o (λ (b : Block). length b.replicas < b.capacity) → IsSome o
      enlarged_held None h = absurd h
      enlarged_held (Some b) h = refl

-- Numbers that were looked up stay so.

pub here-prepared : (a b : Contents) (ns : List ReportedSlot) → IsPrepared a b → AreAtSlots a ns → AreAtSlots b ns
here-prepared a b [] p h = tt
here-prepared a b (n ∷ ns) p h = (p.slots n.id n.slot h.0, here-prepared a b ns p h.1)

pub capacity-prepared : (s : ℕ) (a b : Contents) (ns : List ReportedSlot) → IsLawful a → IsPrepared a b → AreAtSlots a ns → HaveCapacity a s ns → HaveCapacity b s ns
capacity-prepared s a b [] lawful p h r = tt
capacity-prepared s a b (n ∷ ns) lawful p h r =
    let f = lawful.found n.id n.slot h.0 in
    (λ none. p.capacity n.slot f.0 (r.0 (sym (p.marks n.slot s (ap is_some f.2)) ∙ none)), capacity-prepared s a b ns lawful p h.1 r.1)

pub here-push : (a : Contents) (ns : List ReportedSlot) (n : ReportedSlot) → AreAtSlots a ns → slot_of a n.id ≡ Some n.slot → AreAtSlots a (ns ++ n ∷ [])
here-push a [] n h e = (e, tt)
here-push a (m ∷ ns) n h e = (h.0, here-push a ns n h.1 e)

pub capacity-push : (a : Contents) (s : ℕ) (ns : List ReportedSlot) (n : ReportedSlot) → HaveCapacity a s ns → (marks_at a n.slot s ≡ None → HasCapacity a n.slot) → HaveCapacity a s (ns ++ n ∷ [])
capacity-push a s [] n h e = (e, tt)
capacity-push a s (m ∷ ns) n h e = (h.0, capacity-push a s ns n h.1 e)

-- storages get heads
pub prepared-reserved : (a c : Contents) → IsLawful a → IsLawful c → IsReserved a c → IsPrepared a c
prepared-reserved a c lawful lawful_c r = record {
  replicas = same_replicas a c (λ q. ap (λ l. option_and_then (λ k. marks_at c k q.storage) (lookup (nat_eq q.block) l)) r.ids ∙ under (λ k. marks_at c k q.storage) (λ k. marks_at a k q.storage) (slot_of a q.block) (λ k. r.marks k q.storage));
  blocks = same_blocks a c (λ b. ap (λ l. option_and_then (λ k. info_at c k) (lookup (nat_eq b) l)) r.ids ∙ by b (slot_of a b) refl);
  lists = r.lists;
  heads = r.heads;
  delimiter = r.delimiter;
  steps = r.steps;
  slots = λ b x h. ap (λ l. lookup (nat_eq b) l) r.ids ∙ h;
  held = λ x h. elim (cases_eq x a.delimiter) [
    | inl same ↦
        let P : ℕ → Type 0 = λ k. IsSome (block_at c k) in
        subst P (r.delimiter ∙ sym same) lawful_c.marker
    | inr differs ↦ let P : Option Block → Type 0 = λ o. IsSome o in subst P (sym (r.blocks x differs)) h
  ];
  marks = λ x t h. r.marks x t;
  capacity = λ x apart h. let P : Option Block → Type 0 = λ o. IsSomeAnd o (λ (b : Block). length b.replicas < b.capacity) in subst P (sym (r.blocks x apart)) h;
  entries = λ x b e. elim (cases_eq x a.delimiter) [
    | inl same ↦
        let e_here : block_at a a.delimiter ≡ Some b = ap (block_at a) (sym same) ∙ e in
        rw same (r.marker ∙ ap (option_map (with_entry_capacity (entry_capacity c a.delimiter))) e_here)
    | inr differs ↦ kept_capacity c x b (r.blocks x differs ∙ e)
  ];
  grows = λ x. elim (cases_eq x a.delimiter) [
    | inl same ↦ rw same r.capacity
    | inr differs ↦ let e : entry_capacity c x ≡ entry_capacity a x = ap (λ o. option_map_or (λ (b : Block). b.capacity) o 0) (r.blocks x differs) in omega (arith, e)
  ];
  bound = omega (arith, r.bound);
}
  where
    by : (b : ℕ) (o : Option ℕ) → slot_of a b ≡ o → option_and_then (λ k. info_at c k) o ≡ option_and_then (λ k. info_at a k) o
    by b None e = refl
    by b (Some x) e = ap (λ o. option_and_then (λ (k : Block). k.info) o) (r.blocks x (lawful.found b x e).0)
