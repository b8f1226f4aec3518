-- The marks of excess that a round drops and sets at unsettled slots are those that the definition
-- drops and sets:
--     begun_replicas         dropping marks of excess at unsettled slots drops all of them
--     none_marked            a settled block has no surplus
--     marked_replicas        marking the surplus replicas marks what the round marks
use Rattle.std.specs.Prelude.{◌≡◌, ℕ, Bool, true, false, ◌&&◌, ◌||◌, ◌==◌, if◌then◌else◌, List, [], ◌∷◌, map, filter, nat_eq, Option, Some, None, option_map, option_and_then}
use Rattle.std.specs.Cmp.{both_ways}
use Rattle.std.specs.List.{list_any}
use Rattle.std.specs.Map.{lookup}
use Rattle.std.proofs.Common.{cond, refl, sym, ap, ◌∙◌, inl, inr}
use Rattle.std.proofs.lemmas.Bool.{cases_Bool, eqb-true, false≢true, and_parts, eq-eqb}
use Rattle.bm_base.specs.declared.replica.Marks.{Marks}
use Rattle.bm_base.specs.declared.replica.ReplicaId.{ReplicaId}
use Rattle.bm_maps.specs.SlotLists.{IsMember}
use Rattle.bm_maps.proofs.SlotLists.{dec_among}
use Rattle.bm_base.specs.Words.{Map, get, revise, entries, empty, Cluster, Holdings, by_replica, replica_at, has, storages_where, excess_in, without_expired, with_excess_reset, without_unordered_excess, with_surplus_marked}
use Rattle.bm_base.specs.RoundParts.{surplus}
use Rattle.bm_base.proofs.MapLaws.{same_map, get-revise}
use Rattle.bm_base.proofs.MapEntries.{entry_passes, passes_entry}
use Rattle.bm_parts.specs.SettledBlocks.{IsSettled}
use Rattle.bm_parts.proofs.SettledBlocks.{settled_is_left}
use Rattle.bm_arena.specs.Triplets.{Block}
use Rattle.bm_arena.specs.Contents.{Contents, block_at, slot_of, marks_at, find_marks, IsLawful}
use Rattle.bm_arena.specs.HeldMaps.{replicas_at, replicas_of, holdings_of}
use Rattle.bm_arena.proofs.HeldReplicas.{get-replicas_of}
use Rattle.bm_levels.specs.Status.{is_settled_at}
use Rattle.bm_levels.specs.SlotHoldings.{holdings_with}
use Rattle.bm_levels.specs.Changes.{as_excess, all_changed, has_replica, has_block}
use Rattle.bm_levels.proofs.SettledBlocks.{all_plain_at, few_at}
use Rattle.bm_levels.proofs.AllMarks.{found_changed, marks_listed}

-- the number of a settled slot
module _ (a : Contents) (lawful : IsLawful a) (b slot : ℕ) (here : slot_of a b ≡ Some slot) (settled : is_settled_at (block_at a slot) ≡ true) where
  block_there : (k : Block) × (block_at a slot ≡ Some k)
  block_there = let f = lawful.found b slot here in (f.1, f.2)

  settled_there : is_settled_at (Some block_there.0) ≡ true
  settled_there = sym (ap is_settled_at block_there.1) ∙ settled

  pub settled_block : IsSettled (holdings_of a) b
  unfolding holdings_of holdings_with
  settled_block = record {
    all_plain = λ q m same e.
        all_plain_at a empty lawful b slot block_there.0 here block_there.1 settled_there q.storage m (ap (λ z. get (replicas_of a) (replica_at z q.storage)) (sym same) ∙ e);
    few = few_at a empty lawful b slot block_there.0 here block_there.1 settled_there;
  }

  -- dropping marks of excess changes nothing there
  pub begun_same : (s : ℕ) → marks_at a slot s ≡ option_map with_excess_reset (marks_at a slot s)
  unfolding holdings_of
  begun_same s = by (marks_at a slot s) refl
    where
      by : (o : Option Marks) → marks_at a slot s ≡ o → o ≡ option_map with_excess_reset o
      by None e = refl
      by (Some m) e =
          let held : get (replicas_of a) (replica_at b s) ≡ Some m = get-replicas_of a (replica_at b s) ∙ ap (λ o. option_and_then (λ x. marks_at a x s) o) here ∙ e in
          let plain = settled_block.all_plain (replica_at b s) m refl held in
          ap Some (plain ∙ sym (ap with_excess_reset plain))

module _ (a c : Contents) (unsettled : List ℕ) (lawful : IsLawful a) (ids : c.ids ≡ a.ids)
    (settled : (slot : ℕ) → (IsMember slot unsettled → ⊥) → is_settled_at (block_at a slot) ≡ true)
    (begun : (slot : ℕ) → IsMember slot unsettled → replicas_at c slot ≡ all_changed with_excess_reset (replicas_at a slot))
    (others : (slot : ℕ) → (IsMember slot unsettled → ⊥) → block_at c slot ≡ block_at a slot) where
  begun_at : (b slot s : ℕ) → slot_of a b ≡ Some slot → marks_at c slot s ≡ option_map with_excess_reset (marks_at a slot s)
  begun_at b slot s here = elim (dec_among slot unsettled) [
    | inl there ↦ sym (marks_listed c slot s) ∙ ap (λ rs. find_marks rs s) (begun slot there) ∙ found_changed (λ _ m. with_excess_reset m) (replicas_at a slot) s ∙ ap (option_map with_excess_reset) (marks_listed a slot s)
    | inr absent ↦ ap (λ o. option_and_then (λ (k : Block). find_marks k.replicas s) o) (others slot absent) ∙ begun_same a lawful b slot here (settled slot absent) s
  ]

  pub begun_replicas : replicas_of c ≡ (without_unordered_excess (holdings_of a)).replicas
  unfolding without_unordered_excess holdings_of
  begun_replicas = same_map (replicas_of c) (revise (replicas_of a) (λ _ m. with_excess_reset m)) (λ q.
      get-replicas_of c q ∙ ap (λ l. option_and_then (λ x. marks_at c x q.storage) (lookup (nat_eq q.block) l)) ids
      ∙ by q (slot_of a q.block) refl
      ∙ sym (get-revise (replicas_of a) (λ _ m. with_excess_reset m) q ∙ ap (option_map with_excess_reset) (get-replicas_of a q)))
    where
      by : (q : ReplicaId) (o : Option ℕ) → slot_of a q.block ≡ o → option_and_then (λ x. marks_at c x q.storage) o ≡ option_map with_excess_reset (option_and_then (λ x. marks_at a x q.storage) o)
      by q None e = refl
      by q (Some x) e = begun_at q.block x q.storage e

-- The surplus replicas.
chosen : {X Y : Type 0} (p : X → Bool) (g : X → Y) (f : Y → Bool) (xs : List X) → list_any f (map g (filter p xs)) ≡ list_any (λ x. p x && f (g x)) xs
chosen p g f [] = refl
chosen p g f (x ∷ xs) =
    elim (p x) as (λ b. list_any f (map g (cond b (x ∷ filter p xs) (filter p xs))) ≡ ((b && f (g x)) || list_any (λ x. p x && f (g x)) xs)) [
      | true ↦ ap (λ t. f (g x) || t) (chosen p g f xs)
      | false ↦ chosen p g f xs
    ]

module _ (C : Cluster) (G : Holdings) where
  -- a replica is in the surplus exactly if it is in that of its block
  pub listed_surplus : (q : ReplicaId) (m : Marks) → get G.replicas q ≡ Some m → has_replica (surplus C G) q ≡ has (excess_in C G q.block) q.storage
  unfolding surplus has_replica
  listed_surplus q m there =
      chosen too_many key (λ p. (p.storage == q.storage) && (p.block == q.block)) (entries G.replicas)
      ∙ both_ways (list_any passes (entries G.replicas)) (has (excess_in C G q.block) q.storage)
      (λ e.
      let x = entry_passes G.replicas passes e in
      let h = and_parts (has (excess_in C G x.0.block) x.0.storage) ((x.0.storage == q.storage) && (x.0.block == q.block)) x.3 in
      let k = and_parts (x.0.storage == q.storage) (x.0.block == q.block) h.1 in
      sym (λ i. has (excess_in C G (eqb-true x.0.block q.block k.1 i)) (eqb-true x.0.storage q.storage k.0 i)) ∙ h.0)
      (λ e. passes_entry G.replicas passes q m there ((λ i. e i && ((eq-eqb q.storage q.storage refl i) && (eq-eqb q.block q.block refl i)))))
    where
      too_many : ReplicaId × Marks → Bool
      too_many e = has (excess_in C G e.0.block) e.0.storage

      key : ReplicaId × Marks → ReplicaId
      key e = e.0

      passes : ReplicaId × Marks → Bool
      passes e = too_many e && ((e.0.storage == q.storage) && (e.0.block == q.block))

  -- no surplus replica is of a block without surplus
  pub no_surplus : (b : ℕ) → excess_in C G b ≡ [] → has_block (surplus C G) b ≡ false
  unfolding surplus has_block
  no_surplus b none = elim (cases_Bool (list_any (λ (p : ReplicaId). p.block == b) (map key (filter too_many (entries G.replicas))))) [
    | inl e ↦
        let x = entry_passes G.replicas (λ e. too_many e && (e.0.block == b)) (sym (chosen too_many key (λ (p : ReplicaId). p.block == b) (entries G.replicas)) ∙ e) in
        let h = and_parts (has (excess_in C G x.0.block) x.0.storage) (x.0.block == b) x.3 in
        absurd (false≢true (sym (ap (λ xs. has xs x.0.storage) (ap (excess_in C G) (eqb-true x.0.block b h.1) ∙ none)) ∙ h.0))
    | inr e ↦ e
  ]
    where
      too_many : ReplicaId × Marks → Bool
      too_many e = has (excess_in C G e.0.block) e.0.storage

      key : ReplicaId × Marks → ReplicaId
      key e = e.0

  pub marked_replicas : (n : Map by_replica Marks) → n ≡ revise G.replicas (λ q m. if has_replica (surplus C G) q then as_excess m else m) → n ≡ (with_surplus_marked C G).replicas
  unfolding with_surplus_marked
  marked_replicas n is =
      is ∙ same_map (revise G.replicas (λ q m. if has_replica (surplus C G) q then as_excess m else m)) (revise G.replicas (λ q m. if has (excess_in C G q.block) q.storage then record m { excess = true } else m)) (λ q.
      get-revise G.replicas (λ q m. if has_replica (surplus C G) q then as_excess m else m) q
      ∙ by q (get G.replicas q) refl
      ∙ sym (get-revise G.replicas (λ q m. if has (excess_in C G q.block) q.storage then record m { excess = true } else m) q))
    where
      by : (q : ReplicaId) (o : Option Marks) → get G.replicas q ≡ o
          → option_map (λ (m : Marks). if has_replica (surplus C G) q then as_excess m else m) o ≡ option_map (λ (m : Marks). if has (excess_in C G q.block) q.storage then record m { excess = true } else m) o
      by q None e = refl
      by q (Some m) e = ap (λ t. Some (if t then as_excess m else m)) (listed_surplus q m e)

-- a settled block has no surplus as a round begins
pub none_marked : (C : Cluster) (H : Holdings) (b : ℕ) → IsSettled H b → excess_in C (without_unordered_excess H) b ≡ []
unfolding excess_in storages_where without_unordered_excess without_expired
none_marked C H b settled = (settled_is_left C 0 0 H b settled).0
