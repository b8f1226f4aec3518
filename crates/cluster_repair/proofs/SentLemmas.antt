-- DataNodes begin each copy of a list once and in order, unless it is on its way already.
use Rattle.std.proofs.Common.{◌≡◌, ◌∙◌, ◌++◌, ◌∷◌, [], ◌+◌, ◌-◌, ◌^◌, ◌≤◌, ℕ, Bool, true, false, cond, List, min, max, filter, refl, sym, ap, subst, arith, append_assoc, append-nil, length, length-append, take, get_or}
use Rattle.std.specs.Prelude.{◌==◌, ◌&&◌, ◌||◌, ◌<◌, nat_eq, sum_by, if◌then◌else◌}
use Rattle.std.specs.List.{All, Contains, flat_map, fold}
use Rattle.std.proofs.lemmas.Bool.{eq-eqb, eqb-true, or_left}
use Rattle.std.proofs.lemmas.List.{take_more}
use Rattle.std.proofs.lemmas.List.Concat.{flat_map-append, flat_map-cons}
use Rattle.std.proofs.lemmas.List.Elements.{filter-append, All-nil, All-cons, All-append, All-weaker, Contains-append_left, Contains-append_right, Contains-push}
use Rattle.std.proofs.lemmas.List.Folds.{list_any-append}
use Rattle.std.proofs.lemmas.List.Sums.{sum_by-append, sum_by_push}
use Rattle.bm_base.specs.declared.commands.NodeCommands.{NodeCommands}
use Rattle.bm_base.specs.declared.commands.Delete.{Delete}
use Rattle.bm_base.specs.declared.commands.Transfer.{Transfer}
use Rattle.bm_base.specs.Words.{Cluster}
use Rattle.cluster_repair.specs.declared.free_bytes.FreeBytes.{FreeBytes}
use Rattle.cluster_repair.specs.declared.links.Links.{Links}
use Rattle.cluster_repair.specs.declared.awaited_copies.OnWay.{OnWay}
use Rattle.cluster_repair.specs.declared.awaited_copies.Sent.{Sent}
use Rattle.cluster_repair.specs.declared.datanodes.DataNodes.{DataNodes}
use Rattle.cluster_repair.specs.Copies.{is_copy_of, is_among}
use Rattle.cluster_repair.specs.LinkModel.{most, micros_for, sends_until, receives_until, sent_at, received_at, arrival, free_on}
use Rattle.cluster_repair.specs.SentCopies.{AreCounted, AreBegun, IsSent, AreSent, AreNumbered, bytes_of, bytes_to, is_one_of, receiver, sender, to_begin, transfers_of}
use Rattle.bm_topo.proofs.Repeats.{or_first}

-- Membership.

among_front : (xs ys zs : List Sent) (t : Transfer) → zs ≡ xs ++ ys → is_among zs t ≡ false → is_among xs t ≡ false
among_front xs ys zs t is none =
    or_first (is_among xs t) (is_among ys t) (sym (list_any-append (is_copy_of t.block t.target) xs ys) ∙ ap (λ ss. is_among ss t) (sym is) ∙ none)

still_among : (xs ys zs : List Sent) (t : Transfer) → zs ≡ xs ++ ys → is_among xs t ≡ true → is_among zs t ≡ true
still_among xs ys zs t is there =
    ap (λ ss. is_among ss t) is ∙ list_any-append (is_copy_of t.block t.target) xs ys ∙ or_left (is_among xs t) (is_among ys t) there

itself : (t : Transfer) → ((t.block == t.block) && (t.target == t.target)) ≡ true
itself t = ap (λ b. b && (t.target == t.target)) (eq-eqb t.block t.block refl) ∙ eq-eqb t.target t.target refl

or_last : (a b : Bool) → b ≡ true → (a || (b || false)) ≡ true
or_last true b e = refl
or_last false b e = ap (λ t. t || false) e

last_among : (xs ys : List Sent) (s : Sent) → ys ≡ xs ++ s ∷ [] → is_among ys s.transfer ≡ true
last_among xs ys s is =
    ap (λ ss. is_among ss s.transfer) is ∙ list_any-append (is_copy_of s.transfer.block s.transfer.target) xs (s ∷ [])
    ∙ or_last (is_among xs s.transfer) (is_copy_of s.transfer.block s.transfer.target s) (itself s.transfer)

-- Counts.

fold_push : (f : ℕ → Sent → ℕ) (a : ℕ) (xs : List Sent) (s : Sent) → fold f a (xs ++ s ∷ []) ≡ f (fold f a xs) s
fold_push f a [] s = refl
fold_push f a (x ∷ xs) s = fold_push f (f a x) xs s

saturated : (n k most : ℕ) → min (min n most + k) most ≡ min (n + k) most
saturated n k most = omega arith

counted_and : (before : List Sent) (s : Sent) (old new : DataNodes) → new.copies ≡ min (old.copies + 1) (2 ^ 64 - 1) → new.bytes ≡ min (old.bytes + bytes_of s) (2 ^ 128 - 1)
    → new.last_arrival ≡ max old.last_arrival s.arrival → AreCounted before old → AreCounted (before ++ s ∷ []) new
counted_and before s old new copies bytes last counted = record {
  copies =
      copies ∙ ap (λ n. min (n + 1) (2 ^ 64 - 1)) counted.copies ∙ saturated (length before) 1 (2 ^ 64 - 1)
      ∙ ap (λ n. min n (2 ^ 64 - 1)) (sym (length-append before (s ∷ [])));
  bytes =
      bytes ∙ ap (λ n. min (n + bytes_of s) (2 ^ 128 - 1)) counted.bytes ∙ saturated (sum_by bytes_of before) (bytes_of s) (2 ^ 128 - 1)
      ∙ ap (λ n. min n (2 ^ 128 - 1)) (sym (sum_by_push bytes_of before s));
  last_arrival = last ∙ ap (λ t. max t s.arrival) counted.last_arrival ∙ sym (fold_push (λ t s. max t s.arrival) 0 before s);
}

-- Which transfers are begun.

one_of_among : (ss : List Sent) (t : Transfer) → is_one_of (transfers_of ss) t ≡ is_among ss t
one_of_among [] t = refl
one_of_among (s ∷ ss) t = ap (λ b. is_copy_of t.block t.target s || b) (one_of_among ss t)

transfers_of-append : (xs ys : List Sent) → transfers_of (xs ++ ys) ≡ transfers_of xs ++ transfers_of ys
transfers_of-append [] ys = refl
transfers_of-append (x ∷ xs) ys = ap (λ ts. x.transfer ∷ ts) (transfers_of-append xs ys)

to_begin-append : (on ts us : List Transfer) → to_begin on (ts ++ us) ≡ to_begin on ts ++ to_begin (on ++ to_begin on ts) us
to_begin-append on [] us = ap (λ o. to_begin o us) (sym (append-nil on))
to_begin-append on (t ∷ ts) us =
    let there = to_begin-append on ts us in
    let more = to_begin-append (on ++ t ∷ []) ts us in
    let rest : List Transfer = to_begin (on ++ t ∷ []) ts in
    elim (is_one_of on t) as (λ b. (if b then to_begin on (ts ++ us) else t ∷ to_begin (on ++ t ∷ []) (ts ++ us))
    ≡ (if b then to_begin on ts else t ∷ to_begin (on ++ t ∷ []) ts) ++ to_begin (on ++ (if b then to_begin on ts else t ∷ to_begin (on ++ t ∷ []) ts)) us) [
      | true ↦ there
      | false ↦ ap (λ vs. t ∷ vs) more ∙ ap (λ o. t ∷ (rest ++ to_begin o us)) (append_assoc on (t ∷ []) rest)
    ]

begun_append : (old mid xs ys : List Sent) (ts us : List Transfer) → mid ≡ old ++ xs → transfers_of xs ≡ to_begin (transfers_of old) ts
    → transfers_of ys ≡ to_begin (transfers_of mid) us → transfers_of (xs ++ ys) ≡ to_begin (transfers_of old) (ts ++ us)
begun_append old mid xs ys ts us is first second =
    let o = transfers_of old in
    let before : transfers_of mid ≡ o ++ to_begin o ts = ap transfers_of is ∙ transfers_of-append old xs ∙ ap (λ vs. o ++ vs) first in
    transfers_of-append xs ys ∙ ap (λ vs. vs ++ transfers_of ys) first ∙ ap (λ vs. to_begin o ts ++ vs) (second ∙ ap (λ p. to_begin p us) before)
    ∙ sym (to_begin-append o ts us)

-- Their numbers.

numbered_on : (xs ys : List Sent) (a b c : ℕ) → AreNumbered a b xs → AreNumbered b c ys → AreNumbered a c (xs ++ ys)
numbered_on [] ys a b c first second = subst (λ n. AreNumbered n c ys) first second
numbered_on (x ∷ xs) ys a b c first second = (first.0, numbered_on xs ys (min (a + 1) most) b c first.1 second)

-- When they arrive.

sent_on : (C : Cluster) (now : ℕ) (xs ys : List Sent) (a b c : Links) → AreSent C now a b xs → AreSent C now b c ys → AreSent C now a c (xs ++ ys)
sent_on C now [] ys a b c first second = subst (λ l. AreSent C now l c ys) first second
sent_on C now (x ∷ xs) ys a b c first second = (first.0, (first.1.0, sent_on C now xs ys first.0 b c first.1.1 second))

pub is_sent : (C : Cluster) (now : ℕ) (old new : Links) (s : Sent) (source target : ℕ) → source ≡ sender C s → target ≡ receiver C s → s.arrival ≡ arrival old source target (bytes_of s) now
    → ((n : ℕ) → sends_until new n ≡ (if nat_eq source n then sent_at old source (bytes_of s) now else sends_until old n))
    → ((n : ℕ) → receives_until new n ≡ (if nat_eq target n then received_at old target (bytes_of s) now else receives_until old n))
    → new.bandwidth ≡ old.bandwidth → IsSent C now old new s
is_sent C now old new s source target from to arrives sending receiving bandwidth = record {
  arrives = arrives ∙ ap (λ n. arrival old n target (bytes_of s) now) from ∙ ap (λ n. arrival old (sender C s) n (bytes_of s) now) to;
  sending = λ n. sending n ∙ ap (λ k. if nat_eq k n then sent_at old k (bytes_of s) now else sends_until old n) from;
  receiving = λ n. receiving n ∙ ap (λ k. if nat_eq k n then received_at old k (bytes_of s) now else receives_until old n) to;
  bandwidth = bandwidth;
}

at_least : (now until micros other : ℕ) → min (now + micros) most ≤ max (min (max now until + micros) most) other
at_least now until micros other = omega arith

sent_later : (C : Cluster) (now : ℕ) (old new : Links) (s : Sent) → IsSent C now old new s → min (now + micros_for old.bandwidth (bytes_of s)) most ≤ s.arrival
sent_later C now old new s sent =
    subst (λ t. min (now + micros_for old.bandwidth (bytes_of s)) most ≤ t) (sym sent.arrives)
    (at_least now (sends_until old (sender C s)) (micros_for old.bandwidth (bytes_of s)) (received_at old (receiver C s) (bytes_of s) now))

-- Free bytes.

none_taken : (n : ℕ) → n ≡ n - 0
none_taken n = omega arith

taken_twice : (a b c m n k : ℕ) → b ≡ a - m → c ≡ b - n → k ≡ m + n → c ≡ a - k
taken_twice a b c m n k first second both = omega (arith, first, second, both)

taken_once : (is_it : Bool) (s : Sent) (target other new : ℕ) → (is_it ≡ true → target ≡ other) → new ≡ (if is_it then target - bytes_of s else other)
    → new ≡ other - sum_by bytes_of (cond is_it (s ∷ []) [])
taken_once true s target other new same is = let e = same refl in omega (arith, e, is)
taken_once false s target other new same is = is ∙ none_taken other

bytes_to-append : (t : ℕ) (xs ys : List Sent) → bytes_to t (xs ++ ys) ≡ bytes_to t xs + bytes_to t ys
bytes_to-append t xs ys =
    let p : Sent → Bool = λ s. nat_eq s.transfer.target t in
    ap (sum_by bytes_of) (filter-append p xs ys) ∙ sum_by-append bytes_of (filter p xs) (filter p ys)

-- Transfers that are begun.

pub begun_none : (C : Cluster) (now : ℕ) (d : DataNodes) → AreBegun C now [] d d
begun_none C now d = record {
  copies = [];
  on_way = sym (append-nil d.on_way.sent.items);
  begun = refl;
  numbers = refl;
  commanded = All-nil (λ s. Contains [] s.transfer);
  apart = All-nil (λ s. is_among d.on_way.sent.items s.transfer ≡ false);
  sent = All-nil (λ t. is_among d.on_way.sent.items t ≡ true);
  links = refl;
  bandwidth = refl;
  later = All-nil (λ s. min (now + micros_for d.links.bandwidth (bytes_of s)) most ≤ s.arrival);
  free = λ t. none_taken (free_on d.free t);
  nodes = refl;
  storages = refl;
  counted = λ before counted. subst (λ ss. AreCounted ss d) (sym (append-nil before)) counted;
}

-- a copy that is on its way already
pub begun_already : (C : Cluster) (now : ℕ) (d : DataNodes) (t : Transfer) → is_among d.on_way.sent.items t ≡ true → AreBegun C now (t ∷ []) d d
begun_already C now d t there = record {
  copies = [];
  on_way = sym (append-nil d.on_way.sent.items);
  begun = ap (λ b. if b then [] else t ∷ []) (sym (one_of_among d.on_way.sent.items t ∙ there));
  numbers = refl;
  commanded = All-nil (λ s. Contains (t ∷ []) s.transfer);
  apart = All-nil (λ s. is_among d.on_way.sent.items s.transfer ≡ false);
  sent = All-cons (λ t. is_among d.on_way.sent.items t ≡ true) t [] there (All-nil (λ t. is_among d.on_way.sent.items t ≡ true));
  links = refl;
  bandwidth = refl;
  later = All-nil (λ s. min (now + micros_for d.links.bandwidth (bytes_of s)) most ≤ s.arrival);
  free = λ t. none_taken (free_on d.free t);
  nodes = refl;
  storages = refl;
  counted = λ before counted. subst (λ ss. AreCounted ss d) (sym (append-nil before)) counted;
}

pub begun_one : (C : Cluster) (now : ℕ) (old new : DataNodes) (s : Sent) → is_among old.on_way.sent.items s.transfer ≡ false → new.on_way.sent.items ≡ old.on_way.sent.items ++ s ∷ []
    → s.order ≡ old.on_way.next → new.on_way.next ≡ min (old.on_way.next + 1) most → IsSent C now old.links new.links s
    → ((t : ℕ) → free_on new.free t ≡ (if nat_eq s.transfer.target t then free_on old.free s.transfer.target - bytes_of s else free_on old.free t)) → new.free.nodes ≡ old.free.nodes
    → new.free.storages ≡ old.free.storages
    → new.copies ≡ min (old.copies + 1) (2 ^ 64 - 1) → new.bytes ≡ min (old.bytes + bytes_of s) (2 ^ 128 - 1) → new.last_arrival ≡ max old.last_arrival s.arrival
    → AreBegun C now (s.transfer ∷ []) old new
begun_one C now old new s apart on_way order next sent free nodes storages copies bytes last =
    let IsLater : Sent → Type 0 = λ r. min (now + micros_for old.links.bandwidth (bytes_of r)) most ≤ r.arrival in
    record {
      copies = s ∷ [];
      on_way = on_way;
      begun = ap (λ b. if b then [] else s.transfer ∷ []) (sym (one_of_among old.on_way.sent.items s.transfer ∙ apart));
      numbers = (order, next);
      commanded = All-cons (λ r. Contains (s.transfer ∷ []) r.transfer) s [] (Contains-push [] s.transfer) (All-nil (λ r. Contains (s.transfer ∷ []) r.transfer));
      apart = All-cons (λ r. is_among old.on_way.sent.items r.transfer ≡ false) s [] apart (All-nil (λ r. is_among old.on_way.sent.items r.transfer ≡ false));
      sent = All-cons (λ t. is_among new.on_way.sent.items t ≡ true) s.transfer [] (last_among old.on_way.sent.items new.on_way.sent.items s on_way)
          (All-nil (λ t. is_among new.on_way.sent.items t ≡ true));
      links = (new.links, (sent, refl));
      bandwidth = sent.bandwidth;
      later = All-cons IsLater s [] (sent_later C now old.links new.links s sent) (All-nil IsLater);
      free = λ t.
          taken_once (nat_eq s.transfer.target t) s (free_on old.free s.transfer.target) (free_on old.free t) (free_on new.free t)
          (λ e. ap (free_on old.free) (eqb-true s.transfer.target t e)) (free t);
      nodes = nodes;
      storages = storages;
      counted = λ before counted. counted_and before s old new copies bytes last counted;
    }

-- some transfers, and then others
pub begun_on : (C : Cluster) (now : ℕ) (ts us vs : List Transfer) (a b c : DataNodes) → vs ≡ ts ++ us → AreBegun C now ts a b → AreBegun C now us b c → AreBegun C now vs a c
begun_on C now ts us vs a b c is first second =
    let IsLater : Sent → Type 0 = λ s. min (now + micros_for a.links.bandwidth (bytes_of s)) most ≤ s.arrival in
    subst (λ vs. AreBegun C now vs a c) (sym is) (record {
      copies = first.copies ++ second.copies;
      on_way = second.on_way ∙ ap (λ ss. ss ++ second.copies) first.on_way ∙ append_assoc a.on_way.sent.items first.copies second.copies;
      begun = begun_append a.on_way.sent.items b.on_way.sent.items first.copies second.copies ts us first.on_way first.begun second.begun;
      numbers = numbered_on first.copies second.copies a.on_way.next b.on_way.next c.on_way.next first.numbers second.numbers;
      commanded = All-append (λ s. Contains (ts ++ us) s.transfer) first.copies second.copies
          (All-weaker (λ s. Contains ts s.transfer) (λ s. Contains (ts ++ us) s.transfer) (λ s there. Contains-append_left ts us s.transfer there) first.copies first.commanded)
          (All-weaker (λ s. Contains us s.transfer) (λ s. Contains (ts ++ us) s.transfer) (λ s there. Contains-append_right ts us s.transfer there) second.copies second.commanded);
      apart = All-append (λ s. is_among a.on_way.sent.items s.transfer ≡ false) first.copies second.copies first.apart
          (All-weaker (λ s. is_among b.on_way.sent.items s.transfer ≡ false) (λ s. is_among a.on_way.sent.items s.transfer ≡ false)
          (λ s none. among_front a.on_way.sent.items first.copies b.on_way.sent.items s.transfer first.on_way none) second.copies second.apart);
      sent = All-append (λ t. is_among c.on_way.sent.items t ≡ true) ts us
          (All-weaker (λ t. is_among b.on_way.sent.items t ≡ true) (λ t. is_among c.on_way.sent.items t ≡ true)
          (λ t there. still_among b.on_way.sent.items second.copies c.on_way.sent.items t second.on_way there) ts first.sent)
          second.sent;
      links = sent_on C now first.copies second.copies a.links b.links c.links first.links second.links;
      bandwidth = second.bandwidth ∙ first.bandwidth;
      later = All-append IsLater first.copies second.copies first.later
          (subst (λ (n : ℕ). All (λ s. min (now + micros_for n (bytes_of s)) most ≤ s.arrival) second.copies) first.bandwidth second.later);
      free = λ t.
          taken_twice (free_on a.free t) (free_on b.free t) (free_on c.free t) (bytes_to t first.copies) (bytes_to t second.copies) (bytes_to t (first.copies ++ second.copies))
          (first.free t) (second.free t) (bytes_to-append t first.copies second.copies);
      nodes = second.nodes ∙ first.nodes;
      storages = second.storages ∙ first.storages;
      counted = λ before counted.
          subst (λ ss. AreCounted ss c) (append_assoc before first.copies second.copies) (second.counted (before ++ first.copies) (first.counted before counted));
    })

-- nothing but deletes changed
pub begun_same : (C : Cluster) (now : ℕ) (ts : List Transfer) (a b c : DataNodes) → c.on_way ≡ b.on_way → c.links ≡ b.links → c.free ≡ b.free → c.copies ≡ b.copies → c.bytes ≡ b.bytes
    → c.last_arrival ≡ b.last_arrival → AreBegun C now ts a b → AreBegun C now ts a c
begun_same C now ts a b c on_way links free copies bytes last begun =
    let same : c.on_way.sent.items ≡ b.on_way.sent.items = ap (λ (o : OnWay). o.sent.items) on_way in
    record {
      copies = begun.copies;
      on_way = same ∙ begun.on_way;
      begun = begun.begun;
      numbers = subst (λ (o : OnWay). AreNumbered a.on_way.next o.next begun.copies) (sym on_way) begun.numbers;
      commanded = begun.commanded;
      apart = begun.apart;
      sent = All-weaker (λ t. is_among b.on_way.sent.items t ≡ true) (λ t. is_among c.on_way.sent.items t ≡ true) (λ t there. ap (λ ss. is_among ss t) same ∙ there) ts begun.sent;
      links = subst (λ (l : Links). AreSent C now a.links l begun.copies) (sym links) begun.links;
      bandwidth = ap (λ (l : Links). l.bandwidth) links ∙ begun.bandwidth;
      later = begun.later;
      free = λ t. ap (λ (f : FreeBytes). free_on f t) free ∙ begun.free t;
      nodes = ap (λ (f : FreeBytes). f.nodes) free ∙ begun.nodes;
      storages = ap (λ (f : FreeBytes). f.storages) free ∙ begun.storages;
      counted = λ before counted.
          let was = begun.counted before counted in
          record { copies = copies ∙ was.copies; bytes = bytes ∙ was.bytes; last_arrival = last ∙ was.last_arrival };
    }

-- Loops over the commands of nodes.

module _ {X : Type 0} (f : NodeCommands → List X) where
  pub commands_more : (ns : List NodeCommands) (i : ℕ) (n : NodeCommands) → i < length ns → get_or ns i n ≡ n → flat_map f (take (i + 1) ns) ≡ flat_map f (take i ns) ++ f n
  commands_more ns i n below is =
      ap (flat_map f) (take_more ns i n below) ∙ flat_map-append f (take i ns) (get_or ns i n ∷ [])
      ∙ ap (λ m. flat_map f (take i ns) ++ flat_map f (m ∷ [])) is ∙ ap (λ xs. flat_map f (take i ns) ++ xs) (flat_map-cons f n [] ∙ append-nil (f n))

abbrev all_transfers : List NodeCommands → List Transfer
all_transfers ns = flat_map (λ n. n.transfers) ns

pub transfers_more : (ns : List NodeCommands) (i : ℕ) (n : NodeCommands) → i < length ns → get_or ns i n ≡ n → all_transfers (take (i + 1) ns) ≡ all_transfers (take i ns) ++ n.transfers
transfers_more ns i n below is = commands_more (λ (m : NodeCommands). m.transfers) ns i n below is

pub deletes_more : (ns : List NodeCommands) (i : ℕ) (n : NodeCommands) (old mid new all : List Delete) → i < length ns → get_or ns i n ≡ n
    → mid ≡ old ++ flat_map (λ m. m.deletes) (take i ns) → all ≡ n.deletes → new ≡ mid ++ all → new ≡ old ++ flat_map (λ m. m.deletes) (take (i + 1) ns)
deletes_more ns i n old mid new all below is before these after =
    let first : List Delete = flat_map (λ (m : NodeCommands). m.deletes) (take i ns) in
    after ∙ ap (λ ds. ds ++ all) before ∙ ap (λ ds. (old ++ first) ++ ds) these ∙ append_assoc old first n.deletes
    ∙ ap (λ ds. old ++ ds) (sym (commands_more (λ (m : NodeCommands). m.deletes) ns i n below is))

pub copies_more : (ns : List NodeCommands) (i : ℕ) (n : NodeCommands) (old new len : ℕ) → i < length ns → get_or ns i n ≡ n → old ≡ min (length (all_transfers (take i ns))) (2 ^ 64 - 1)
    → len ≡ length n.transfers → new ≡ min (old + len) (2 ^ 64 - 1) → new ≡ min (length (all_transfers (take (i + 1) ns))) (2 ^ 64 - 1)
copies_more ns i n old new len below is before long after =
    after ∙ ap (λ k. min (k + len) (2 ^ 64 - 1)) before ∙ saturated (length (all_transfers (take i ns))) len (2 ^ 64 - 1)
    ∙ ap (λ k. min (length (all_transfers (take i ns)) + k) (2 ^ 64 - 1)) long
    ∙ ap (λ k. min k (2 ^ 64 - 1)) (sym (ap length (transfers_more ns i n below is) ∙ length-append (all_transfers (take i ns)) n.transfers))
