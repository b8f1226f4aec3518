-- Changing a block's shard alone suffices for an event on the block; all shards stay up to date.
use Rattle.std.specs.Prelude.{◌≡◌, ℕ, zero, suc, ◌+◌, ◌<◌, if◌then◌else◌, List, [], ◌∷◌, map, length, Some, slice_get, slice_set, slice_index_or, Result, Ok, Err, IfOk, OnOk, OnErr}
use Rattle.std.proofs.Common.{refl, sym, ap, subst, ◌∙◌, arith, eq-eqb}
use Rattle.std.proofs.lemmas.Option.{same_Some, slice_get_within}
use Rattle.bm_base.specs.declared.event.Event.{Event}
use Rattle.bm_base.specs.declared.event.Done.{Done}
use Rattle.bm_base.specs.declared.refusal.Refusal.{Refusal}
use Rattle.bm_base.specs.Words.{Cluster, Holdings, range_from, change_cluster, change_holdings, done}
use Rattle.bm_base.specs.Shards.{shard_of, cut}
use Rattle.bm_parts.specs.Parts.{block_of, change_part}
use Rattle.bm_parts.specs.Whole.{whole_of, AreOwn}
use Rattle.bm_parts.proofs.WholeParts.{parts_again}
use Rattle.bm_parts.proofs.OneShard.{same_cluster, one_block_changes_one_part, one_shard_is_enough}
use Rattle.bm_shard.specs.ShardView.{Seen}
use Rattle.bm_shard.specs.UpToDate.{IsUpToDate, IsSameButCapacity}
use Rattle.bm_shards.specs.Whole.{parts_of, held_by, AreIndexed, AreShards, AreUpToDate, HaveTaken}
use Rattle.bm_shards.specs.OneShard.{IsChanged, IsMadeAt}
use Rattle.bm_shards.proofs.SameShards.{count_of, stays_up_to_date, are_shards}

get_part : (ss : List (ℕ × Seen)) (k : ℕ) (s : ℕ × Seen) → slice_get ss k ≡ Some s → slice_get (parts_of ss) k ≡ Some s.1.holdings
get_part [] k s e = cc
get_part (r ∷ ss) zero s e = ap Some (ap (λ t. t.1.holdings) (same_Some r s e))
get_part (r ∷ ss) (suc k) s e = get_part ss k s e

set_part : (ss : List (ℕ × Seen)) (k : ℕ) (x : ℕ × Seen) → parts_of (slice_set ss k x) ≡ slice_set (parts_of ss) k x.1.holdings
set_part [] k x = refl
set_part (r ∷ ss) zero x = refl
set_part (r ∷ ss) (suc k) x = ap (λ Ps. r.1.holdings ∷ Ps) (set_part ss k x)

set_long : (ss : List (ℕ × Seen)) (k : ℕ) (x : ℕ × Seen) → length (slice_set ss k x) ≡ length ss
set_long [] k x = refl
set_long (r ∷ ss) zero x = refl
set_long (r ∷ ss) (suc k) x = ap suc (set_long ss k x)

indexed_at : (shards i : ℕ) (ss : List (ℕ × Seen)) (k : ℕ) (s : ℕ × Seen) → AreIndexed shards i ss → slice_get ss k ≡ Some s → s.1.part ≡ record { index = k + i; shards = shards }
indexed_at shards i [] k s h e = cc
indexed_at shards i (r ∷ ss) zero s h e =
    let none : i ≡ 0 + i = omega arith in
    ap (λ t. t.1.part) (sym (same_Some r s e)) ∙ h.1 ∙ (λ j. record { index = none j; shards = shards })
indexed_at shards i (r ∷ ss) (suc k) s h e =
    let more : k + suc i ≡ suc k + i = omega arith in
    indexed_at shards (suc i) ss k s h.2 e ∙ (λ j. record { index = more j; shards = shards })

indexed_set : (shards i : ℕ) (ss : List (ℕ × Seen)) (k : ℕ) (s x : ℕ × Seen) → AreIndexed shards i ss → slice_get ss k ≡ Some s → x.0 ≡ s.0 → x.1.part ≡ s.1.part → AreIndexed shards i (slice_set ss k x)
indexed_set shards i [] k s x h e same part = cc
indexed_set shards i (r ∷ ss) zero s x h e same part =
    (same ∙ ap (λ t. t.0) (sym (same_Some r s e)) ∙ h.0, part ∙ ap (λ t. t.1.part) (sym (same_Some r s e)) ∙ h.1, h.2)
indexed_set shards i (r ∷ ss) (suc k) s x h e same part = (h.0, h.1, indexed_set shards (suc i) ss k s x h.2 e same part)

pub up_to_date_at : (C : Cluster) (ss : List (ℕ × Seen)) (k : ℕ) (s : ℕ × Seen) → AreUpToDate C ss → slice_get ss k ≡ Some s → IsUpToDate C s.1
up_to_date_at C [] k s h e = cc
up_to_date_at C (r ∷ ss) zero s h e = subst (λ t. IsUpToDate C t.1) (same_Some r s e) h.0
up_to_date_at C (r ∷ ss) (suc k) s h e = up_to_date_at C ss k s h.1 e

up_to_date_set : (C : Cluster) (ss : List (ℕ × Seen)) (k : ℕ) (x : ℕ × Seen) → AreUpToDate C ss → IsUpToDate C x.1 → AreUpToDate C (slice_set ss k x)
up_to_date_set C [] k x h one = tt
up_to_date_set C (r ∷ ss) zero x h one = (one, h.1)
up_to_date_set C (r ∷ ss) (suc k) x h one = (h.0, up_to_date_set C ss k x h.1 one)

took_set : (round pend : ℕ) (ss : List (ℕ × Seen)) (k : ℕ) (s x : ℕ × Seen) → HaveTaken round pend ss → slice_get ss k ≡ Some s → x.1.round ≡ s.1.round → x.1.pend ≡ s.1.pend → HaveTaken round pend (slice_set ss k x)
took_set round pend [] k s x h e same again = cc
took_set round pend (r ∷ ss) zero s x h e same again =
    (same ∙ ap (λ t. t.1.round) (sym (same_Some r s e)) ∙ h.0, again ∙ ap (λ t. t.1.pend) (sym (same_Some r s e)) ∙ h.1, h.2)
took_set round pend (r ∷ ss) (suc k) s x h e same again = (h.0, h.1, took_set round pend ss k s x h.2 e same again)

number_at : {X : Type 0} (f : ℕ → X) (i m k : ℕ) → k < m → slice_get (map f (range_from i m)) k ≡ Some (f (k + i))
number_at f i zero k less = absurd (omega (arith, less))
number_at f i (suc m) zero less =
    let none : i ≡ 0 + i = omega arith in
    ap (λ n. Some (f n)) none
number_at f i (suc m) (suc k) less =
    let more : k + suc i ≡ suc k + i = omega arith in
    number_at f (suc i) m k (omega (arith, less)) ∙ ap (λ n. Some (f n)) more

-- each shard holds what all shards hold of its numbers
own_at : (shards : ℕ) (Ps : List Holdings) (k : ℕ) (P : Holdings) → AreOwn shards 0 Ps → slice_get Ps k ≡ Some P → cut (whole_of Ps) k shards ≡ P
own_at shards Ps k P own e =
    let zero_more : k + 0 ≡ k = omega arith in
    ap (λ n. cut (whole_of Ps) n shards) (sym zero_more)
    ∙ same_Some _ _ (sym (number_at (λ i. cut (whole_of Ps) i shards) 0 (length Ps) k (slice_get_within Ps k P e)) ∙ ap (λ Qs. slice_get Qs k) (parts_again shards Ps 0 own) ∙ e)

-- the shard of a block holds what all shards hold of the shard's numbers
pub own_holdings : (b index : ℕ) (ss : List (ℕ × Seen)) (s : ℕ × Seen) → AreShards (length ss) ss → index ≡ shard_of b (length ss) → slice_get ss index ≡ Some s
    → s.1.holdings ≡ cut (held_by ss) (shard_of b (length ss)) (length ss)
own_holdings b index ss s h at there =
    sym (own_at (length ss) (parts_of ss) index s.1.holdings h.own (get_part ss index s there)) ∙ ap (λ k. cut (held_by ss) k (length ss)) at

pub has_shard : (b : ℕ) (ss : List (ℕ × Seen)) → AreShards (length ss) ss → shard_of b (length ss) < length ss
has_shard b ss h = omega (arith, h.some)

module _ (C : Cluster) (e : Event) (b : ℕ) (ss ts : List (ℕ × Seen)) (h : AreShards (length ss) ss) (is : block_of e ≡ Some b) where
  abbrev index : ℕ
  index = shard_of b (length ss)

  module _ (d : Done) (made : IsMadeAt (λ S T. IsChanged C e S T d) index ss ts) where
    abbrev S : ℕ × Seen
    S = made.shard

    changed_part : made.made.holdings ≡ change_holdings C S.1.holdings e
    changed_part =
        let at = indexed_at (length ss) 0 ss index S h.indexed made.there in
        let zero_more : index + 0 ≡ index = omega arith in
        made.holds.holdings ∙ ap (λ p. change_part C S.1.holdings p.index p.shards e) at ∙ ap (λ n. change_part C S.1.holdings n (length ss) e) zero_more
        ∙ one_block_changes_one_part C S.1.holdings e b index (length ss) is ∙ ap (λ t. if t then change_holdings C S.1.holdings e else S.1.holdings) (eq-eqb index index refl)

    parts_now : parts_of ts ≡ slice_set (parts_of ss) index (change_holdings C S.1.holdings e)
    parts_now = ap parts_of made.now ∙ set_part ss index (S.0, made.made) ∙ ap (slice_set (parts_of ss) index) changed_part

    abbrev enough : Type 0
    enough = (held_by ts ≡ change_holdings C (held_by ss) e) × AreShards (length ts) ts × (d ≡ done (held_by ss) (held_by ts))

    pub one_is_enough : enough
    one_is_enough =
        let all = one_shard_is_enough C e b (length ss) (parts_of ss) S.1.holdings h.some (sym (count_of ss)) h.own is (get_part ss index S made.there) in (
          ap whole_of parts_now ∙ all.0.0,
          are_shards (length ss) ts (record {
            indexed = subst (AreIndexed (length ss) 0) (sym made.now) (indexed_set (length ss) 0 ss index S (S.0, made.made) h.indexed made.there refl made.holds.part);
            own = subst (AreOwn (length ss) 0) (sym parts_now) all.0.1;
            long = sym (ap length made.now ∙ set_long ss index (S.0, made.made));
            some = h.some;
            few = h.few;
          }),
          made.holds.done ∙ ap (done S.1.holdings) changed_part ∙ all.1 ∙ ap (λ Qs. done (held_by ss) (whole_of Qs)) (sym parts_now),
        )

    pub one_up_to_date : AreUpToDate C ss → AreUpToDate (change_cluster C e) ts
    one_up_to_date was_up_to_date =
        let same : change_cluster C e ≡ C = same_cluster C e b is in
        subst (λ D. AreUpToDate D ts) (sym same)
        (subst (AreUpToDate C) (sym made.now) (up_to_date_set C ss index (S.0, made.made) was_up_to_date (subst (λ D. IsUpToDate D made.made) same made.holds.up_to_date)))

    pub one_took : (round pend : ℕ) → HaveTaken round pend ss → HaveTaken round pend ts
    one_took round pend took = subst (HaveTaken round pend) (sym made.now) (took_set round pend ss index S (S.0, made.made) took made.there made.holds.round made.holds.pend)

  -- if it changed only its capacity
  module _ (made : IsMadeAt IsSameButCapacity index ss ts) where
    abbrev O : ℕ × Seen
    O = made.shard

    parts_still : parts_of ts ≡ parts_of ss
    parts_still = ap parts_of made.now ∙ set_part ss index (O.0, made.made) ∙ ap (slice_set (parts_of ss) index) (ap (λ s. s.holdings) made.holds.rest) ∙ set_same (parts_of ss) index O.1.holdings (get_part ss index O made.there)
      where
        set_same : (Ps : List Holdings) (k : ℕ) (P : Holdings) → slice_get Ps k ≡ Some P → slice_set Ps k P ≡ Ps
        set_same [] k P e = refl
        set_same (Q ∷ Ps) zero P e = ap (λ R. R ∷ Ps) (sym (same_Some Q P e))
        set_same (Q ∷ Ps) (suc k) P e = ap (λ Rs. Q ∷ Rs) (set_same Ps k P e)

    pub still_held : held_by ts ≡ held_by ss
    still_held = ap whole_of parts_still

    pub still_are : AreShards (length ts) ts
    still_are = are_shards (length ss) ts (record {
      indexed = subst (AreIndexed (length ss) 0) (sym made.now) (indexed_set (length ss) 0 ss index O (O.0, made.made) h.indexed made.there refl (ap (λ s. s.part) made.holds.rest));
      own = subst (AreOwn (length ss) 0) (sym parts_still) h.own;
      long = sym (ap length made.now ∙ set_long ss index (O.0, made.made));
      some = h.some;
      few = h.few;
    })

    pub still_up_to_date : AreUpToDate C ss → AreUpToDate C ts
    still_up_to_date was_up_to_date =
        subst (AreUpToDate C) (sym made.now) (up_to_date_set C ss index (O.0, made.made) was_up_to_date (stays_up_to_date C O.1 made.made made.holds (up_to_date_at C ss index O was_up_to_date made.there)))

    pub still_took : (round pend : ℕ) → HaveTaken round pend ss → HaveTaken round pend ts
    still_took round pend took =
        subst (HaveTaken round pend) (sym made.now) (took_set round pend ss index O (O.0, made.made) took made.there (ap (λ s. s.round) made.holds.rest) (ap (λ s. s.pend) made.holds.rest))

-- an element that was borrowed at an index is at that index
pub item_there : {X : Type 0} (xs : List X) (k : ℕ) (x : X) → k < length xs → x ≡ slice_index_or xs k x → slice_get xs k ≡ Some x
item_there [] k x less is = absurd (omega (arith, less))
item_there (y ∷ ys) zero x less is = ap Some (sym is)
item_there (y ∷ ys) (suc k) x less is = item_there ys k x (omega (arith, less)) is

pub made_ok : {D E : Type 0} (R : D → Seen → Seen → Type 0) (o : Result D E) (k : ℕ) (ss : List (ℕ × Seen)) (s : ℕ × Seen) (T : Seen) → slice_get ss k ≡ Some s → IfOk o (λ d. R d s.1 T)
    → IfOk o (λ d. IsMadeAt (R d) k ss (slice_set ss k (s.0, T)))
made_ok R (Ok d) k ss s T there h = record { shard = s; made = T; there = there; now = refl; holds = h }
made_ok R (Err x) k ss s T there h = h

pub made_err : {D E : Type 0} (R : Seen → Seen → Type 0) (o : Result D E) (k : ℕ) (ss : List (ℕ × Seen)) (s : ℕ × Seen) (T : Seen) → slice_get ss k ≡ Some s → OnErr o (R s.1 T)
    → OnErr o (IsMadeAt R k ss (slice_set ss k (s.0, T)))
made_err R (Ok d) k ss s T there h = h
made_err R (Err x) k ss s T there h = record { shard = s; made = T; there = there; now = refl; holds = h }

-- The outcome of an event, in the form of a function's goals.
module _ (C : Cluster) (e : Event) (b index : ℕ) (ss ts : List (ℕ × Seen)) (o : Result Done Refusal) (h : AreShards (length ss) ss) (is : block_of e ≡ Some b) (at : index ≡ shard_of b (length ss))
    (changed : IfOk o (λ d. IsMadeAt (λ S T. IsChanged C e S T d) index ss ts)) (same : OnErr o (IsMadeAt IsSameButCapacity index ss ts)) where
  abbrev AtEnd : Result Done Refusal → Type 0
  AtEnd r =
      IfOk r (λ d. d ≡ done (held_by ss) (held_by ts)) × OnOk r (held_by ts ≡ change_holdings C (held_by ss) e)
      × (AreUpToDate C ss → OnOk r (AreUpToDate (change_cluster C e) ts)) × AreShards (length ts) ts
      × ((round pend : ℕ) → HaveTaken round pend ss → HaveTaken round pend ts)
      × OnErr r (held_by ts ≡ held_by ss) × (AreUpToDate C ss → OnErr r (AreUpToDate C ts))

  pub at_end : AtEnd o
  at_end = by o changed same
    where
      by : (r : Result Done Refusal) → IfOk r (λ d. IsMadeAt (λ S T. IsChanged C e S T d) index ss ts) → OnErr r (IsMadeAt IsSameButCapacity index ss ts) → AtEnd r
      by (Ok d) made still =
          let here = subst (λ k. IsMadeAt (λ S T. IsChanged C e S T d) k ss ts) at made in
          let all = one_is_enough C e b ss ts h is d here in
          (all.2, all.0, one_up_to_date C e b ss ts h is d here, all.1, one_took C e b ss ts h is d here, tt, (λ _. tt))
      by (Err x) made still =
          let here = subst (λ k. IsMadeAt IsSameButCapacity k ss ts) at still in
          (tt, tt, (λ _. tt), still_are C e b ss ts h is here, still_took C e b ss ts h is here, still_held C e b ss ts h is here, still_up_to_date C e b ss ts h is here)
