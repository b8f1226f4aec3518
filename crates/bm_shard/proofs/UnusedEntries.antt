-- A number has an unused entry in a shard's view exactly if it has one in the shard's arena.
use Rattle.std.proofs.Common.{◌≡◌, ℕ, Bool, true, false, cond, List, [], ◌∷◌, map, take, drop, Option, Some, None, Result, Ok, Err, is_some, refl, sym, ap, subst, inl, inr, ◌∙◌}
use Rattle.std.specs.Prelude.{◌≢◌, ◌==◌, ◌||◌, IsTrue, OnErr, option_map}
use Rattle.std.proofs.lemmas.Bool.{cases_eq, eqb-true, eq-eqb, false≢true}
use Rattle.bm_base.specs.declared.ids.Part.{Part}
use Rattle.bm_base.specs.declared.replica.ReplicaId.{ReplicaId}
use Rattle.bm_base.specs.declared.replica.Marks.{Marks}
use Rattle.bm_base.specs.declared.replica.Stamp.{Stamp}
use Rattle.bm_base.specs.declared.replica.BlockInfo.{BlockInfo}
use Rattle.bm_base.specs.declared.event.Event.{Event}
use Rattle.bm_base.specs.declared.event.Event.TheVariants.{AddBlock, Received}
use Rattle.bm_base.specs.Words.{Map, Order, by_number, contains_key, get, insert, revise, revise_at, Cluster, Holdings, by_replica, replica_at, ReportedBlock, enter, is_named, report, with_surplus_marked, without_unordered_excess}
use Rattle.bm_maps.proofs.SlotLists.{dec_among}
use Rattle.bm_base.proofs.Options.{there}
use Rattle.bm_base.proofs.MapLaws.{get-insert, get-revise}
use Rattle.bm_base.proofs.MapEntries.{get_here}
use Rattle.bm_base.proofs.Ties.{number_tie}
use Rattle.bm_arena.specs.Contents.{Contents, block_at, slot_of, IsLawful}
use Rattle.bm_arena.specs.HeldMaps.{replicas_of, blocks_of}
use Rattle.bm_arena.proofs.HeldReplicas.{one_number}
use Rattle.bm_arena.proofs.Replicas.{IsMember-append}
use Rattle.bm_maps.specs.SlotLists.{IsMember}
use Rattle.std.proofs.lemmas.List.{take-append-drop}
use Rattle.bm_report.specs.declared.types.ReportedSlot.{ReportedSlot}
use Rattle.bm_report.specs.DuringReport.{reported_of}
use Rattle.bm_report.specs.Ready.{LookedUpReport, reported_blocks, IsReportedAt}
use Rattle.bm_levels.specs.UnusedEntries as levels
use Rattle.bm_levels.specs.SlotHoldings.{holdings_with}
use Rattle.bm_levels.specs.LeveledBlocks.{Leveled}
use Rattle.bm_levels.proofs.UnusedEntries.{unused_before, unused_elsewhere, same_numbers, some_before}
use Rattle.bm_shard.specs.declared.shard.PreparedEvent.{PreparedEvent}
use Rattle.bm_shard.specs.declared.shard.PreparedEvent.TheVariants as prepared
use Rattle.bm_shard.specs.ShardView.{Seen, LookUp}
use Rattle.bm_shard.specs.UnusedEntries.{IsUnused, HasNoUnused, HasUnusedOnly, may_add_entry}
use Rattle.bm_shard.specs.Inside.{numbers_of, heads_of, is_prepared}
use Rattle.bm_shard.proofs.Arrivals.{named_there}
use Rattle.bm_shard.proofs.Numbers.{entered, has_entry}
use Rattle.bm_shard.proofs.SameHoldings.{seen_of}

-- Unused entries by the fields of a shard.
module _ (v : Leveled) (P : Map by_replica ℕ) (part : Part) (round pend : ℕ) (report : Option LookUp) (transfers : List (ℕ × ℕ)) where
  abbrev seen : Seen
  seen = seen_of v P part round pend (record { entries = numbers_of v.arena; lists = heads_of v.arena; report = report; transfers = transfers })

  pub unused_inside : (b : ℕ) → IsUnused seen b → levels.IsUnused v.arena b
  unfolding holdings_with
  unused_inside b unused = record { entry = has_entry v.arena b unused.entry; unknown = unused.unknown; empty = unused.empty }

  pub unused_outside : (b : ℕ) → levels.IsUnused v.arena b → IsUnused seen b
  unfolding holdings_with
  unused_outside b unused = record { entry = entered v.arena b unused.entry; unknown = unused.unknown; empty = unused.empty }

  pub none_outside : levels.HasNoUnused v.arena → HasNoUnused seen
  none_outside none b unused = none b (unused_inside b unused)

  -- for a shard that was seen as `before`
  pub none_inside : (before : Seen) → seen ≡ before → HasNoUnused before → levels.HasNoUnused v.arena
  none_inside before is none b unused = let P : Seen → Type 0 = λ S. HasNoUnused S in subst P (sym is) none b (unused_outside b unused)

  -- no number has an unused entry that had none before
  pub none_kept : (w : Leveled) (before : Seen) → seen ≡ before → HasNoUnused before → levels.MakesNoUnused v.arena w.arena → levels.HasNoUnused w.arena
  none_kept w before is none keeps b unused = none_inside before is none b (keeps b unused)

-- only these numbers have unused entries, if none had one before, and only these got one
pub only_these : (a c : Contents) (these : ℕ → Bool) → levels.HasNoUnused a → levels.MakesUnusedOnly these a c → (b : ℕ) → levels.IsUnused c b → IsTrue (these b)
only_these a c these none keeps b unused = by (these b) refl
  where
    by : (t : Bool) → these b ≡ t → t ≡ true
    by true e = refl
    by false e = absurd (none b (keeps b e unused))

-- the same arena
pub same_unused : (a c : Contents) → c ≡ a → levels.MakesNoUnused a c
same_unused a c is b unused = let P : Contents → Type 0 = λ x. levels.IsUnused x b in subst P is unused

-- no number has an unused entry, if none had one before, and none got one
pub none_more : (a c : Contents) → levels.HasNoUnused a → levels.MakesNoUnused a c → levels.HasNoUnused c
none_more a c none keeps b unused = none b (keeps b unused)

-- Changes in place, of the same numbers.

-- a changed value has the same key
pub none_revised : {K X : Type 0} {o : Order K} (m n : Map o X) (f : K → X → X) → n ≡ revise m f → (q : K) → get n q ≡ None → get m q ≡ None
none_revised {K} {X} m n f is q none = by (get m q) (sym (get-revise m f q) ∙ ap (λ k. get k q) (sym is) ∙ none)
  where
    by : (o : Option X) → option_map (f q) o ≡ None → o ≡ None
    by None e = refl
    by (Some x) e = cc

pub none_revised_at : {K X : Type 0} {o : Order K} (m n : Map o X) (k : K) (f : X → X) → n ≡ revise_at m k f → (q : K) → get n q ≡ None → get m q ≡ None
unfolding revise_at
none_revised_at m n k f is = none_revised m n _ is

-- an insertion removes no entry
pub none_put : (m n : Map by_number BlockInfo) (b : ℕ) (i : BlockInfo) → n ≡ insert m b i → (q : ℕ) → get n q ≡ None → get m q ≡ None
none_put m n b i is q none = by (q == b) (ap (λ t. cond t (Some i) (get m q)) (sym (number_tie q b)) ∙ sym (get-insert m b i q) ∙ ap (λ k. get k q) (sym is) ∙ none)
  where
    by : (t : Bool) → cond t (Some i) (get m q) ≡ None → get m q ≡ None
    by true e = cc
    by false e = e

pub unused_by : (a c : Contents) → c.ids ≡ a.ids → ((b : ℕ) → get (blocks_of c) b ≡ None → get (blocks_of a) b ≡ None) → ((q : ReplicaId) → get (replicas_of c) q ≡ None → get (replicas_of a) q ≡ None)
    → levels.MakesNoUnused a c
unused_by a c ids unknown empty b unused = unused_before a c b (some_before (same_numbers a c ids b) unused.entry) (unknown b) (λ s. empty (replica_at b s)) unused

pub same_none : {K X : Type 0} {o : Order K} (m n : Map o X) → n ≡ m → (q : K) → get n q ≡ None → get m q ≡ None
same_none m n is q none = sym (ap (λ k. get k q) is) ∙ none

-- After the insertion of a received replica no entry is unused, if at most the entry of its number
-- was before.
pub none_received : (C : Cluster) (H : Holdings) (a c : Contents) (s b : ℕ) (stamp : Stamp) → IsLawful a → c.ids ≡ a.ids
    → ((slot : ℕ) → slot_of a b ≢ Some slot → block_at c slot ≡ block_at a slot) → replicas_of c ≡ (enter C H (replica_at b s) stamp).replicas
    → ((n : ℕ) → levels.IsUnused a n → b ≡ n) → levels.HasNoUnused c
unfolding enter
none_received C H a c s b stamp lawful ids others is only n unused =
    elim (cases_eq n b) [
      | inl same ↦
          let put : is_some (get (replicas_of c) (replica_at b s)) ≡ true = ap (λ m. is_some (get m (replica_at b s))) is ∙ ap is_some (get_here _ (replica_at b s) _) in
          false≢true (sym (ap is_some (sym (ap (λ x. get (replicas_of c) (replica_at x s)) same) ∙ unused.empty s)) ∙ put)
      | inr differs ↦
          let led = there (slot_of c n) unused.entry in
          let here : slot_of a n ≡ Some led.0 = sym (same_numbers a c ids n) ∙ led.1 in
          let apart : slot_of a b ≢ Some led.0 = λ e. differs (one_number a lawful n b led.0 here e) in
          differs (sym (only n (unused_elsewhere a c n led.0 here led.1 (others led.0 apart) unused)))
    ]

-- After a report no entry is unused, if at most those of its numbers were before, and none is at
-- the slots that it swept. The other slots that it changed are those of its numbers.
pub none_reported : (C : Cluster) (H : Holdings) (s : ℕ) (ns : List ReportedSlot) (a m c : Contents) (changed : List ℕ) (came : ℕ) → IsLawful a → m.ids ≡ a.ids
    → levels.IsSameButDelimiter changed a m → ((slot : ℕ) → IsMember slot (take came changed) → IsReportedAt a (map reported_of ns) slot) → replicas_of m ≡ (report C H s (map reported_of ns)).replicas
    → ((n : ℕ) → levels.IsUnused a n → IsTrue (is_named (map reported_of ns) n)) → levels.MakesNoUnused m c
    → levels.HasNoUnusedAt (drop came changed) m c → levels.HasNoUnused c
none_reported C H s ns a m c changed came lawful ids others reported_blocks is only keeps left n unused =
    let mid = keeps n unused in
    let led = there (slot_of m n) mid.entry in
    let here : slot_of a n ≡ Some led.0 = sym (same_numbers a m ids n) ∙ led.1 in
    let not_reported : IsTrue (is_named (map reported_of ns) n) → ⊥ = λ h.
    let replica_there : contains_key (replicas_of m) (replica_at n s) ≡ true = named_there C H s ns m is (replica_at n s) (eq-eqb s s refl) ∙ h in
    false≢true (sym (ap is_some (mid.empty s)) ∙ replica_there) in
    elim (dec_among led.0 (drop came changed)) [
      | inl swept ↦ left n led.0 swept led.1 unused
      | inr unswept ↦
          elim (dec_among led.0 (take came changed)) [
            | inl first ↦
                let t = reported_blocks led.0 first in
                let P : ℕ → Type 0 = λ b. IsTrue (is_named (map reported_of ns) b) in
                not_reported (subst P (one_number a lawful t.0 n led.0 t.2 here) t.1)
            | inr unlisted ↦
                let absent : IsMember led.0 changed → ⊥ = λ h. in_neither led.0 unlisted unswept h in
                not_reported (only n (unused_elsewhere a m n led.0 here led.1 (others led.0 (lawful.found n led.0 here).0 absent) mid))
          ]
    ]
  where
    in_neither : (slot : ℕ) → (IsMember slot (take came changed) → ⊥) → (IsMember slot (drop came changed) → ⊥) → IsMember slot changed → ⊥
    in_neither slot front back h =
        let P : List ℕ → Type 0 = λ l. IsMember slot l in
        elim (IsMember-append slot (take came changed) (drop came changed) (subst P (sym (take-append-drop came changed)) h)) [ inl x ↦ front x | inr y ↦ back y ]

-- The reservation of an event.

pub prepared_report : (p : PreparedEvent) (r : LookedUpReport) (s : ℕ) (b : ℕ) → p ≡ prepared.Report s → IsTrue (is_prepared p r b) → IsTrue (is_named (reported_blocks r) b)
prepared_report p r s b is h = let P : PreparedEvent → Type 0 = λ x. IsTrue (is_prepared x r b) in subst P is h

pub prepared_entry : (p : PreparedEvent) (r : LookedUpReport) (n b : ℕ) → p ≡ prepared.Entry n → IsTrue (is_prepared p r b) → n ≡ b
prepared_entry p r n b is h = let P : PreparedEvent → Type 0 = λ x. IsTrue (is_prepared x r b) in eqb-true n b (subst P is h)

pub prepared_one : (p : PreparedEvent) (r : LookedUpReport) (s b : ℕ) (stamp : Stamp) (n : ℕ) → p ≡ prepared.Notice s → reported_blocks r ≡ record { id = b; stamp = stamp } ∷ [] → IsTrue (is_prepared p r n) → b ≡ n
unfolding is_named
prepared_one p r s b stamp n is named h =
    let P : List ReportedBlock → Type 0 = λ ts. IsTrue (is_named ts n) in
    let Q : PreparedEvent → Type 0 = λ x. IsTrue (is_prepared x r n) in
    eqb-true b n (one (b == n) (subst P named (subst Q is h)))
  where
    one : (t : Bool) → (t || false) ≡ true → t ≡ true
    one true e = refl
    one false e = e

-- only the number of the notice is named
pub named_alone : (r : LookedUpReport) (b : ℕ) (stamp : Stamp) (n : ℕ) → reported_blocks r ≡ record { id = b; stamp = stamp } ∷ [] → IsTrue (b == n) → IsTrue (is_named (reported_blocks r) n)
unfolding is_named
named_alone r b stamp n is h = let P : List ReportedBlock → Type 0 = λ ts. IsTrue (is_named ts n) in subst P (sym is) (ap (λ t. t || false) h)

pub none_prepared : (S : Seen) (these : ℕ → Bool) → HasNoUnused S → HasUnusedOnly these S
none_prepared S these none b unused = absurd (none b unused)

-- The numbers to which an event may give entries.

pub may_add : (part : Part) (e : Event) (S : Seen) (b : ℕ) (stamp : Stamp) (repl : ℕ) → e ≡ AddBlock b stamp repl → HasUnusedOnly (λ n. b == n) S → HasUnusedOnly (may_add_entry part e) S
may_add part e S b stamp repl is h = let P : Event → Type 0 = λ x. HasUnusedOnly (may_add_entry part x) S in subst P (sym is) h

pub may_receive : (part : Part) (e : Event) (S : Seen) (s b : ℕ) (stamp : Stamp) → e ≡ Received s b stamp → HasUnusedOnly (λ n. b == n) S → HasUnusedOnly (may_add_entry part e) S
may_receive part e S s b stamp is h = let P : Event → Type 0 = λ x. HasUnusedOnly (may_add_entry part x) S in subst P (sym is) h

-- marks of excess remove no replica
pub none_marked : (C : Cluster) (H : Holdings) (n : Map by_replica Marks) → n ≡ (with_surplus_marked C (without_unordered_excess H)).replicas → (q : ReplicaId) → get n q ≡ None → get H.replicas q ≡ None
unfolding with_surplus_marked without_unordered_excess
none_marked C H n is q none = none_revised H.replicas _ _ refl q (none_revised _ n _ is q none)

-- a fact also holds for a refusal
pub on_err : {X E P : Type 0} (r : Result X E) → P → OnErr r P
on_err (Ok x) h = tt
on_err (Err e) h = h
