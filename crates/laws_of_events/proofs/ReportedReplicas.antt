-- After a full report, the last entry for a block decides its replica on the storage.
use Rattle.std.proofs.Common.{◌≡◌, ◌≢◌, ℕ, Bool, true, false, cond, ◌||◌, Option, Some, None, is_some, List, [], ◌∷◌, ◌++◌, map, refl, ap, ◌∙◌, eqb-true, eq-eqb, ne_eqb}
use Rattle.std.specs.Prelude.{◌==◌, if◌then◌else◌}
use Rattle.std.specs.Option.{option_or, option_map_or}
use Rattle.std.specs.Ordering.{eq_by_cmp}
use Rattle.std.proofs.lemmas.Bool.{and_right}
use Rattle.std.proofs.Math.Bool.{and-true}
use Rattle.bm_base.specs.declared.replica.ReplicaId.{ReplicaId}
use Rattle.bm_base.specs.declared.replica.Marks.{Marks}
use Rattle.bm_base.specs.declared.replica.Stamp.{Stamp}
use Rattle.bm_base.specs.Words.{Map, get, insert, insert_all, keep, has, Cluster, Holdings, by_replica, replica_at, replica_cmp, ReportedBlock, entered_marks, is_named, report}
use Rattle.bm_base.proofs.MapLaws.{get-insert}
use Rattle.bm_base.proofs.Ties.{replica_tie}
use Rattle.bm_base.proofs.Clusters.{eqb_turned}
use Rattle.bm_base.proofs.ForEach.{each_mapped, each_of}
use Rattle.bm_base.proofs.MapEntries.{get_insert_all_elsewhere}
use Rattle.bm_base.proofs.Options.{not_there}
use Rattle.bm_parts.proofs.ReportedReplicas.{stays_by}
use Rattle.laws_of_events.specs.Runs.{last_stamp}

-- the reported numbers
abbrev ids : List ReportedBlock → List ℕ
ids ts = map (λ t. t.id) ts

named_head : (o : Option Stamp) (b : Bool) (stamp : Stamp) → is_some (option_or o (if b then Some stamp else None)) ≡ (b || is_some o)
named_head None true stamp = refl
named_head None false stamp = refl
named_head (Some t) true stamp = refl
named_head (Some t) false stamp = refl

pub named_since : (ts : List ReportedBlock) (b : ℕ) → is_some (last_stamp ts b) ≡ is_named ts b
unfolding is_named
named_since [] b = refl
named_since (e ∷ ts) b = named_head (last_stamp ts b) (e.id == b) e.stamp ∙ ap (λ x. (e.id == b) || x) (named_since ts b)

pub named_numbers : (ts : List ReportedBlock) (b : ℕ) → is_named ts b ≡ has (ids ts) b
unfolding is_named
named_numbers [] b = refl
named_numbers (e ∷ ts) b = ap (λ x. (e.id == b) || x) (named_numbers ts b)

none_named : (ts : List ReportedBlock) (b : ℕ) → is_some (last_stamp ts b) ≡ false → last_stamp ts b ≡ None
none_named ts b e = not_there (last_stamp ts b) e

either_here : (o : Option Stamp) (b : Bool) (stamp : Stamp) → o ≡ None → b ≡ true → option_or o (if b then Some stamp else None) ≡ Some stamp
either_here None true stamp e h = refl
either_here None false stamp e h = cc
either_here (Some x) b stamp e h = cc

-- the last stamp of a number that no later entry names
pub last_is : (front : List ReportedBlock) (e : ReportedBlock) (behind : List ReportedBlock) → has (ids behind) e.id ≡ false → last_stamp (front ++ (e ∷ behind)) e.id ≡ Some e.stamp
last_is [] e behind h = either_here (last_stamp behind e.id) (e.id == e.id) e.stamp (none_named behind e.id (named_since behind e.id ∙ named_numbers behind e.id ∙ h)) (eq-eqb e.id e.id refl)
last_is (x ∷ front) e behind h = ap (λ o. option_or o (if x.id == e.id then Some x.stamp else None)) (last_is front e behind h)

module _ (C : Cluster) (H : Holdings) (s : ℕ) where
  abbrev put : ReportedBlock → ReplicaId × Marks
  put e = (replica_at e.id s, entered_marks H (replica_at e.id s) e.stamp)

  -- the marks after a report: new ones for a reported number, else those that were there
  abbrev pub put_or : ℕ → Option Stamp → Option Marks → Option Marks
  put_or b o z = option_map_or (λ t. Some (entered_marks H (replica_at b s) t)) o z

  tied : (b c : ℕ) → eq_by_cmp replica_cmp (replica_at b s) (replica_at c s) ≡ (b == c)
  tied b c = replica_tie (replica_at b s) (replica_at c s) ∙ rw (eq-eqb s s refl) (and-true (b == c))

  step_put : (b : ℕ) (o : Option Stamp) (x : ReportedBlock) (z : Option Marks) (t : Bool) → (b == x.id) ≡ t → (x.id == b) ≡ t
      → put_or b o (cond t (Some (entered_marks H (replica_at x.id s) x.stamp)) z) ≡ put_or b (option_or o (if t then Some x.stamp else None)) z
  step_put b (Some y) x z t e f = refl
  step_put b None x z true e f = ap (λ c. Some (entered_marks H (replica_at c s) x.stamp)) (eqb-true x.id b f)
  step_put b None x z false e f = refl

  puts_here : (m : Map by_replica Marks) (ts : List ReportedBlock) (b : ℕ) → get (insert_all m (map put ts)) (replica_at b s) ≡ put_or b (last_stamp ts b) (get m (replica_at b s))
  puts_here m [] b = refl
  puts_here m (x ∷ ts) b =
      puts_here (insert m (put x).0 (put x).1) ts b
      ∙ ap (put_or b (last_stamp ts b)) (get-insert m (put x).0 (put x).1 (replica_at b s) ∙ ap (λ c. cond c (Some (put x).1) (get m (replica_at b s))) (tied b x.id))
      ∙ step_put b (last_stamp ts b) x (get m (replica_at b s)) (b == x.id) refl (eqb_turned x.id b)
      ∙ ap (λ t. put_or b (option_or (last_stamp ts b) (if t then Some x.stamp else None)) (get m (replica_at b s))) (eqb_turned b x.id)

  elsewhere_key : (p : ReplicaId) (c : ℕ) → p.storage ≢ s → eq_by_cmp replica_cmp p (replica_at c s) ≡ false
  elsewhere_key p c other = replica_tie p (replica_at c s) ∙ rw (ne_eqb p.storage s other) (and_right (p.block == c) false refl)

  puts_elsewhere : (m : Map by_replica Marks) (ts : List ReportedBlock) (p : ReplicaId) → p.storage ≢ s → get (insert_all m (map put ts)) p ≡ get m p
  puts_elsewhere m ts p other =
      get_insert_all_elsewhere m (map put ts) p
      (each_mapped (λ e. eq_by_cmp replica_cmp p e.0 ≡ false) put ts (each_of (λ x. eq_by_cmp replica_cmp p (replica_at x.id s) ≡ false) ts (λ x. elsewhere_key p x.id other)))

  -- on the storage
  pub reported_here : (ts : List ReportedBlock) (b : ℕ) → get (report C H s ts).replicas (replica_at b s) ≡ put_or b (last_stamp ts b) (get (keep H.replicas (λ q _. stays_by C H s ts q)) (replica_at b s))
  unfolding report
  reported_here ts b = puts_here (keep H.replicas (λ q _. stays_by C H s ts q)) ts b

  -- elsewhere
  pub reported_elsewhere : (ts : List ReportedBlock) (p : ReplicaId) → p.storage ≢ s → get (report C H s ts).replicas p ≡ get (keep H.replicas (λ q _. stays_by C H s ts q)) p
  unfolding report
  reported_elsewhere ts p other = puts_elsewhere (keep H.replicas (λ q _. stays_by C H s ts q)) ts p other
