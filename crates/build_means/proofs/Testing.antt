-- The test of each decider finds a rule due exactly where it is.
use Rattle.std.proofs.Common.{◌≡◌, ◌≢◌, ℕ, Bool, true, false, not, ◌&&◌, List, [], ◌∷◌, map, Option, Some, None, refl, sym, ap, ◌∙◌, inl, inr, ◌⊎◌}
use Rattle.std.specs.Prelude.{nat_eq}
use Rattle.std.specs.List.{list_any}
use Rattle.std.specs.Str.{bytes_eq}
use Rattle.std.specs.Bool.{Decides}
use Rattle.std.specs.Cmp.Lexicographic.{pointwise, pointwise_decides}
use Rattle.std.proofs.lemmas.Bool.Decides.{Decides-like, Decides-eqb, Decides-not, Decides-and, Decides-or, Decides-ltb}
use Rattle.std.proofs.lemmas.Slice.Eq.{bytes_eq-Decides}
use Rattle.build_model.specs.Rules.{Path, Content, Tree, Stamps, Decider, content, timestamp_newer, timestamp_match, content_timestamp, Rule, Dependency, Record, Records, Among}
use Rattle.build_model.specs.Stale.{name_of, stamp_of, first_stamp, IsSameAction, IsAfter, HasNewer, DiffersInBoth, HasChanged, IsDue, is_always, no_file, no_record, has_changed as changed, IsKept, IsUpToDate}
use Rattle.build_model.specs.Graphs.{setting}
use Rattle.build_model.specs.Laws.{TestsDue}
use Rattle.build_model.specs.Steps.{Build, present_record}
use Rattle.rule_graph.specs.Graphs.{RuleGraph}
use Rattle.world_api.specs.Act.{Law}
use Rattle.world_api.specs.declared.hash.Hash.{Hash}
use Rattle.build_means.specs.Graphs.{graph_of}
use Rattle.build_means.specs.Due.{texts_eq, digest_eq, stamp_eq, dependency_eq, is_same_work, record_eq, is_same_action, is_after, has_newer, has_same_stamps, differs, any_differs, has_changed, is_due_for, is_due}
use Rattle.build_means.proofs.Lists.{true_false, or_either, or_neither, any_there, there_any, none_passes, texts_decide, option_decides, stamps_decide}

dependency_same : (a b : Dependency) → (a.name ≡ b.name) × ((a.digest ≡ b.digest) × (a.stamp ≡ b.stamp)) → a ≡ b
dependency_same a b h = λ i. record { name = h.0 i; digest = h.1.0 i; stamp = h.1.1 i }

dependency_decides : (a b : Dependency) → Decides (dependency_eq a b) (a ≡ b)
dependency_decides a b =
    Decides-like (dependency_eq a b) (dependency_same a b) (λ e. (ap (λ d. d.name) e, (ap (λ d. d.digest) e, ap (λ d. d.stamp) e)))
    (Decides-and (bytes_eq a.name b.name) (digest_eq a.digest b.digest && stamp_eq a.stamp b.stamp) (bytes_eq-Decides a.name b.name)
    (Decides-and (digest_eq a.digest b.digest) (stamp_eq a.stamp b.stamp) (option_decides bytes_eq-Decides a.digest b.digest)
    (option_decides Decides-eqb a.stamp b.stamp)))

IsSameWork : Record → Record → Type 0
IsSameWork a b = (a.work ≡ b.work) × ((a.hash ≡ b.hash) × ((a.signed ≡ b.signed) × (a.targets ≡ b.targets)))

work_decides : (a b : Record) → Decides (is_same_work a b) (IsSameWork a b)
unfolding IsSameWork
work_decides a b =
    Decides-and (nat_eq a.work b.work) (nat_eq a.hash b.hash && (texts_eq a.signed b.signed && texts_eq a.targets b.targets)) (Decides-eqb a.work b.work)
    (Decides-and (nat_eq a.hash b.hash) (texts_eq a.signed b.signed && texts_eq a.targets b.targets) (Decides-eqb a.hash b.hash)
    (Decides-and (texts_eq a.signed b.signed) (texts_eq a.targets b.targets) (texts_decide a.signed b.signed) (texts_decide a.targets b.targets)))

record_same : (a b : Record) → IsSameWork a b × (a.dependencies ≡ b.dependencies) → a ≡ b
unfolding IsSameWork
record_same a b h = λ i. record { work = h.0.0 i; hash = h.0.1.0 i; signed = h.0.1.1.0 i; targets = h.0.1.1.1 i; dependencies = h.1 i }

same_record : (a b : Record) → a ≡ b → IsSameWork a b × (a.dependencies ≡ b.dependencies)
unfolding IsSameWork
same_record a b e = ((ap (λ r. r.work) e, (ap (λ r. r.hash) e, (ap (λ r. r.signed) e, ap (λ r. r.targets) e))), ap (λ r. r.dependencies) e)

pub record_decides : (a b : Record) → Decides (record_eq a b) (a ≡ b)
record_decides a b =
    Decides-like (record_eq a b) (record_same a b) (same_record a b)
    (Decides-and (is_same_work a b) (pointwise dependency_eq a.dependencies b.dependencies) (work_decides a b)
    (pointwise_decides dependency_decides a.dependencies b.dependencies))

action_from : (old now : Record) → IsSameWork now old × (map name_of now.dependencies ≡ map name_of old.dependencies) → IsSameAction old now
unfolding IsSameWork
action_from old now h = record { work = h.0.0; hash = h.0.1.0; signed = h.0.1.1.0; targets = h.0.1.1.1; names = h.1 }

from_action : (old now : Record) → IsSameAction old now → IsSameWork now old × (map name_of now.dependencies ≡ map name_of old.dependencies)
unfolding IsSameWork
from_action old now h = ((h.work, (h.hash, (h.signed, h.targets))), h.names)

action_decides : (old now : Record) → Decides (is_same_action old now) (IsSameAction old now)
action_decides old now =
    Decides-like (is_same_action old now) (action_from old now) (from_action old now)
    (Decides-and (is_same_work now old) (texts_eq (map name_of now.dependencies) (map name_of old.dependencies)) (work_decides now old)
    (texts_decide (map name_of now.dependencies) (map name_of old.dependencies)))

after_decides : (stamp target : Option ℕ) → Decides (is_after stamp target) (IsAfter stamp target)
after_decides (Some stamp) (Some target) = Decides-ltb target stamp
after_decides (Some stamp) None = (λ e. true_false (sym e), λ h. absurd h)
after_decides None target = (λ e. true_false (sym e), λ h. absurd h)

newer_decides : (target : Option ℕ) (now : Record) → Decides (has_newer target now) (HasNewer target now)
newer_decides target now = (to, from)
  where
    to : has_newer target now ≡ true → HasNewer target now
    to e =
        let h = any_there (λ d. is_after d.stamp target) now.dependencies e in
        record { dependency = h.0; stands = h.1; is_after = (after_decides h.0.stamp target).0 h.2 }

    from : HasNewer target now → has_newer target now ≡ true
    from h = there_any (λ d. is_after d.stamp target) h.stands ((after_decides h.dependency.stamp target).1 h.is_after)

differs_decides : (c d : Dependency) → Decides (differs c d) ((c.stamp ≢ d.stamp) × (c.digest ≢ d.digest))
differs_decides c d =
    Decides-and (not (stamp_eq c.stamp d.stamp)) (not (digest_eq c.digest d.digest))
    (Decides-not (stamp_eq c.stamp d.stamp) (option_decides Decides-eqb c.stamp d.stamp))
    (Decides-not (digest_eq c.digest d.digest) (option_decides bytes_eq-Decides c.digest d.digest))

any_differs_decides : (cs ds : List Dependency) → Decides (any_differs cs ds) (DiffersInBoth cs ds)
any_differs_decides [] ds = (λ e. true_false (sym e), λ h. absurd h)
any_differs_decides (c ∷ cs) [] = (λ e. true_false (sym e), λ h. absurd h)
any_differs_decides (c ∷ cs) (d ∷ ds) = Decides-or (differs c d) (any_differs cs ds) (differs_decides c d) (any_differs_decides cs ds)

-- the test of a record that is kept beside the one of now
pub changed_decides : (decider : Decider) (target : Option ℕ) (old now : Record) → Decides (has_changed decider target old now) (HasChanged decider target old now)
changed_decides content target old now = Decides-not (record_eq old now) (record_decides old now)
changed_decides timestamp_newer target old now =
    Decides-or (not (is_same_action old now)) (has_newer target now) (Decides-not (is_same_action old now) (action_decides old now)) (newer_decides target now)
changed_decides timestamp_match target old now =
    Decides-or (not (is_same_action old now)) (not (has_same_stamps old now)) (Decides-not (is_same_action old now) (action_decides old now))
    (Decides-not (has_same_stamps old now) (stamps_decide (map stamp_of now.dependencies) (map stamp_of old.dependencies)))
changed_decides content_timestamp target old now =
    Decides-or (not (is_same_action old now)) (any_differs old.dependencies now.dependencies) (Decides-not (is_same_action old now) (action_decides old now))
    (any_differs_decides old.dependencies now.dependencies)

module _ (t : Tree) (stamps : Stamps) (m : Records) (r : Rule) (now : Record) where
  target_due : (p : Path) (c : Content) (o : Option Record) → t p ≡ c → m p ≡ o → Among p r.targets →
      is_due_for r.decider (first_stamp stamps r.targets) now c o ≡ true → IsDue t stamps m r now
  target_due p None o file kept among e = no_file p among file
  target_due p (Some bytes) None file kept among e = no_record p among kept
  target_due p (Some bytes) (Some old) file kept among e = changed p old among kept ((changed_decides r.decider (first_stamp stamps r.targets) old now).0 e)

  found_due : (r.always ≡ true) ⊎ ((p : Path) × Among p r.targets × (is_due_for r.decider (first_stamp stamps r.targets) now (t p) (m p) ≡ true)) → IsDue t stamps m r now
  found_due (inl e) = is_always e
  found_due (inr h) = target_due h.0 (t h.0) (m h.0) refl refl h.1 h.2

  later_due : (r.always ≡ true) ⊎ (list_any (λ p. is_due_for r.decider (first_stamp stamps r.targets) now (t p) (m p)) r.targets ≡ true) →
      (r.always ≡ true) ⊎ ((p : Path) × Among p r.targets × (is_due_for r.decider (first_stamp stamps r.targets) now (t p) (m p) ≡ true))
  later_due (inl e) = inl e
  later_due (inr e) = inr (any_there (λ p. is_due_for r.decider (first_stamp stamps r.targets) now (t p) (m p)) r.targets e)

  -- what is found due is due
  pub due : is_due r t stamps m now ≡ true → IsDue t stamps m r now
  unfolding is_due
  due e = found_due (later_due (or_either r.always (list_any (λ p. is_due_for r.decider (first_stamp stamps r.targets) now (t p) (m p)) r.targets) e))

  module _ (e : is_due r t stamps m now ≡ false) where
    neither : (r.always ≡ false) × (list_any (λ p. is_due_for r.decider (first_stamp stamps r.targets) now (t p) (m p)) r.targets ≡ false)
    unfolding is_due
    neither = or_neither r.always (list_any (λ p. is_due_for r.decider (first_stamp stamps r.targets) now (t p) (m p)) r.targets) e

    each_spared : (p : Path) → Among p r.targets → is_due_for r.decider (first_stamp stamps r.targets) now (t p) (m p) ≡ false
    each_spared p among = none_passes (λ q. is_due_for r.decider (first_stamp stamps r.targets) now (t q) (m q)) among neither.1

    -- and what isn't found due isn't
    pub spared : IsDue t stamps m r now → ⊥
    spared (is_always always) = true_false (sym always ∙ neither.0)
    spared (no_file p among file) =
        true_false (sym (ap (λ c. is_due_for r.decider (first_stamp stamps r.targets) now c (m p)) file) ∙ each_spared p among)
    spared (no_record p among kept) = unkept (t p) (sym (ap (λ o. is_due_for r.decider (first_stamp stamps r.targets) now (t p) o) kept) ∙ each_spared p among)
      where
        unkept : (c : Content) → is_due_for r.decider (first_stamp stamps r.targets) now c None ≡ false → ⊥
        unkept None f = true_false f
        unkept (Some bytes) f = true_false f
    spared (changed p old among kept has) = unchanged (t p) (sym (ap (λ o. is_due_for r.decider (first_stamp stamps r.targets) now (t p) o) kept) ∙ each_spared p among)
      where
        unchanged : (c : Content) → is_due_for r.decider (first_stamp stamps r.targets) now c (Some old) ≡ false → ⊥
        unchanged None f = true_false f
        unchanged (Some bytes) f = true_false (sym ((changed_decides r.decider (first_stamp stamps r.targets) old now).1 has) ∙ f)

    module _ (by : r.decider ≡ content) where
      kept_by : (p : Path) (c : Content) (o : Option Record) → t p ≡ c → m p ≡ o → is_due_for content (first_stamp stamps r.targets) now c o ≡ false → IsKept t m now p
      kept_by p None o file kept f = true_false f
      kept_by p (Some bytes) None file kept f = true_false f
      kept_by p (Some bytes) (Some old) file kept f = record { bytes = bytes; is_file = file; has_record = kept ∙ ap Some (same (record_eq old now) refl f) }
        where
          same : (b : Bool) → record_eq old now ≡ b → not b ≡ false → old ≡ now
          same true g h = (record_decides old now).0 g
          same false g h = true_false h

      each_kept : (p : Path) → Among p r.targets → IsKept t m now p
      each_kept p among = kept_by p (t p) (m p) refl refl (sym (ap (λ d. is_due_for d (first_stamp stamps r.targets) now (t p) (m p)) by) ∙ each_spared p among)

      -- by content it is up to date
      pub up_to_date : IsUpToDate t m r now
      up_to_date = record { not_always = neither.0; targets = each_kept }

pub tests_due : (g : RuleGraph) (law : Law) (hash : Hash) (tree t : Tree) (b : Build) (r : Rule) → TestsDue (setting (graph_of g law hash tree) t) b r
tests_due g law hash tree t b r =
    let now = present_record (setting (graph_of g law hash tree) t) b r in
    record {
      due = due b.before b.stamps_before b.records r now;
      spared = spared b.before b.stamps_before b.records r now;
      kept = λ by e. up_to_date b.before b.stamps_before b.records r now e by;
    }
