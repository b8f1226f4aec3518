-- Entering a named block, on the storage or not, enters its replica as defined and keeps all else.
use Rattle.std.proofs.Common.{◌≡◌, ◌≢◌, ℕ, ◌+◌, ◌∷◌, true, Option, Some, None, IsSome, refl, subst, sym, ap, ◌∙◌, arith}
use Rattle.std.specs.Prelude.{nat_eq}
use Rattle.std.specs.Map.{lookup}
use Rattle.bm_base.specs.declared.replica.Marks.{Marks}
use Rattle.bm_base.specs.Words.{get, insert, remove, len, Cluster, replica_at, are_siblings}
use Rattle.bm_maps.specs.SlotLists.{IsMember, without}
use Rattle.bm_arena.specs.Contents.{Contents, slot_of, marks_at, list_of, IsLawful, KeepsOthers}
use Rattle.bm_arena.specs.HeldMaps.{replicas_of}
use Rattle.bm_report.specs.DuringReport.{entered_at, behind, KeepsRest, IsOncePerNode}
use Rattle.bm_arena.proofs.HeldReplicas.{replicas-put, replicas-out}
use Rattle.bm_report.proofs.AfterDelimiter.{behind-linked, behind-moved, behind-kept}
use Rattle.bm_report.proofs.Frames.{framed, framed-chain, is_there, some_there}
use Rattle.bm_arena.proofs.SetMarks.{set_at, set-elsewhere, set-known, set-marks, set-others}
use Rattle.bm_arena.proofs.StableEntries.{entries-others, set-entries}
use Rattle.bm_report.proofs.Siblings.{siblings_apart}
use Rattle.bm_report.proofs.Maps.{get-here, insert-same, some_is, is_replaced, put-alone, put-moved, len-put_new, len-out}

-- it is there: it is moved to the head, and then its marks are set
module _ (a c : Contents) (s b slot : ℕ) (was : Marks) (lawful : IsLawful a) (here : slot_of a b ≡ Some slot) (at : marks_at a slot s ≡ Some was)
    (others : KeepsOthers a c slot s) (same : c.blocks ≡ a.blocks) (list : list_of c s ≡ slot ∷ without slot (list_of a s)) where
  known-apart : slot ≢ a.delimiter
  known-apart = (lawful.found b slot here).0

  known-still : marks_at c slot s ≡ Some was
  known-still = ap (λ (x : Contents). marks_at x slot s) (λ i. record c { blocks = same i }) ∙ at

  pub known-frame : KeepsRest s a c
  known-frame = framed a c s slot known-apart others.ids others.delimiter others.blocks others.known others.heads (is_there (marks_at c slot s) was known-still) (entries-others a c slot s others)

  pub known-behind : behind c s ≡ without slot (behind a s)
  known-behind = behind-moved a c s slot others.delimiter known-apart (lawful.distinct s) list

  pub known-replicas : replicas_of c ≡ replicas_of a
  known-replicas =
      replicas-put a c lawful slot s b here others.ids others.blocks others.marks was known-still
      ∙ insert-same (replicas_of a) (replica_at b s) was (get-here a b slot s here ∙ at)

  module _ (m : Marks) (lawful_c : IsLawful c) where
    here_c : slot_of c b ≡ Some slot
    here_c = ap (λ l. lookup (nat_eq b) l) others.ids ∙ here

    put : marks_at (set_at c slot s m) slot s ≡ Some m
    put = set-marks c slot s m (some_is (marks_at c slot s) was known-still)

    pub set-replicas : replicas_of (set_at c slot s m) ≡ insert (replicas_of a) (replica_at b s) m
    set-replicas =
        replicas-put c (set_at c slot s m) lawful_c slot s b here_c refl (set-elsewhere c slot s m) (set-others c slot s m) m put
        ∙ ap (λ K. insert K (replica_at b s) m) known-replicas

    pub set-frame : KeepsRest s a (set_at c slot s m)
    set-frame =
        framed-chain s a c (set_at c slot s m) known-frame
        (framed c (set_at c slot s m) s slot (λ e. known-apart (e ∙ others.delimiter)) refl refl (set-elsewhere c slot s m) (set-known c slot s m) (λ t h. h)
        (is_there (marks_at (set_at c slot s m) slot s) m put) (set-entries c slot s m))

-- it is not there: it is linked, and then removed from another storage of the node
module _ (C : Cluster) (a c : Contents) (s b slot : ℕ) (m : Marks) (lawful : IsLawful a) (here : slot_of a b ≡ Some slot) (absent : marks_at a slot s ≡ None)
    (others : KeepsOthers a c slot s) (put : marks_at c slot s ≡ Some m) (list : list_of c s ≡ slot ∷ list_of a s) (once : IsOncePerNode C (replicas_of a)) where
  linked-apart : slot ≢ a.delimiter
  linked-apart = (lawful.found b slot here).0

  pub linked-frame : KeepsRest s a c
  linked-frame = framed a c s slot linked-apart others.ids others.delimiter others.blocks others.known others.heads (is_there (marks_at c slot s) m put) (entries-others a c slot s others)

  not_among : IsMember slot (list_of a s) → ⊥
  not_among among = some_there (marks_at a slot s) ((lawful.exact slot s).0 among) absent

  pub linked-behind : behind c s ≡ without slot (behind a s)
  linked-behind = behind-linked a c s slot others.delimiter linked-apart not_among list

  linked-map : replicas_of c ≡ insert (replicas_of a) (replica_at b s) m
  linked-map = replicas-put a c lawful slot s b here others.ids others.blocks others.marks m put

  linked-length : len (replicas_of c) ≡ len (replicas_of a) + 1
  linked-length = ap len linked-map ∙ len-put_new (replicas_of a) (replica_at b s) m (get-here a b slot s here ∙ absent)

  pub alone-replicas : ((t : ℕ) → are_siblings C s t ≡ true → marks_at a slot t ≡ None) → replicas_of c ≡ entered_at C (replicas_of a) (replica_at b s) m
  alone-replicas none =
      linked-map
      ∙ put-alone C (replicas_of a) (replica_at b s) m (λ q r.
      let is = is_replaced C (replica_at b s) q r in
      ap (λ (k : ℕ). get (replicas_of a) (replica_at k q.storage)) is.0 ∙ get-here a b slot q.storage here ∙ none q.storage is.1)

  pub alone-length : 0 + len (replicas_of c) ≡ len (replicas_of a) + 1
  alone-length = let e = linked-length in omega arith

  module _ (d : Contents) (t : ℕ) (lawful_c : IsLawful c) (there : IsSome (marks_at a slot t)) (siblings : are_siblings C s t ≡ true)
      (others_d : KeepsOthers c d slot t) (gone : marks_at d slot t ≡ None) where
    apart_t : t ≢ s
    apart_t = siblings_apart C s t siblings

    here_linked : slot_of c b ≡ Some slot
    here_linked = ap (λ l. lookup (nat_eq b) l) others.ids ∙ here

    there_a : IsSome (get (replicas_of a) (replica_at b t))
    there_a = let P : Option Marks → Type 0 = λ o. IsSome o in subst P (sym (get-here a b slot t here)) there

    moved-map : replicas_of d ≡ remove (replicas_of c) (replica_at b t)
    moved-map = replicas-out c d lawful_c slot t b here_linked others_d.ids others_d.blocks others_d.marks gone

    pub moved-replicas : replicas_of d ≡ entered_at C (replicas_of a) (replica_at b s) m
    moved-replicas = moved-map ∙ ap (λ K. remove K (replica_at b t)) linked-map ∙ put-moved C (replicas_of a) b s t m once there_a siblings

    pub moved-length : 1 + len (replicas_of d) ≡ len (replicas_of a) + 1
    moved-length =
        let P : Option Marks → Type 0 = λ o. IsSome o in
        let out = ap len moved-map in
        let fewer = len-out (replicas_of c) (replica_at b t) (subst P (sym (get-here c b slot t here_linked ∙ others.marks t apart_t)) there) in
        let e = linked-length in
        omega (arith, out, fewer, e)

    put_d : marks_at d slot s ≡ Some m
    put_d = others_d.marks s (λ e. apart_t (sym e)) ∙ put

    pub moved-frame : KeepsRest s a d
    moved-frame =
        framed-chain s a c d linked-frame
        (framed c d s slot (λ e. linked-apart (e ∙ others.delimiter)) others_d.ids others_d.delimiter others_d.blocks others_d.known others_d.heads
        (is_there (marks_at d slot s) m put_d) (entries-others c d slot t others_d))

    pub moved-behind : behind d s ≡ without slot (behind a s)
    moved-behind = behind-kept c d s slot others_d.delimiter (λ e. linked-apart (e ∙ others.delimiter)) (others_d.lists s (λ e. apart_t (sym e))) ∙ linked-behind
