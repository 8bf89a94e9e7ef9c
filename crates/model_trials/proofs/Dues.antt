-- What makes a rule due or stale: one of its targets.
use Rattle.std.proofs.Common.{◌≡◌, ℕ, Bool, true, false, List, Option, Some, None, refl, sym, subst, ◌∙◌}
use Rattle.std.specs.Prelude.{Any, IsTrue, ◌↔◌}
use Rattle.build_model.specs.Rules.{Path, Content, Tree, Stamps, Decider, content, Rule, Dependency, Record, Records, Among}
use Rattle.build_model.specs.Stale.{HasNewer, IsAfter, HasChanged, IsDue, IsStale, first_stamp}
use Rattle.model_trials.specs.declared.changes.PlainDependency.{PlainDependency}
use Rattle.model_trials.specs.declared.changes.PlainRecord.{PlainRecord}
use Rattle.model_trials.specs.Staling.{as_dependency, as_record, IsDueBy, IsDueAt}
use Rattle.model_trials.proofs.Finding.{some_among, among_some, among_map, among_values}

some_newer : (target : Option ℕ) (now : PlainRecord) → Any (λ d. IsAfter d.stamp target) now.dependencies.items → HasNewer target (as_record now)
some_newer target now any =
    let h = some_among (λ (d : PlainDependency). IsAfter d.stamp target) now.dependencies.items any in
    record { dependency = as_dependency h.0; stands = among_map as_dependency h.0 now.dependencies.items h.1.0; is_after = h.1.1 }

newer_some : (target : Option ℕ) (now : PlainRecord) → HasNewer target (as_record now) → Any (λ d. IsAfter d.stamp target) now.dependencies.items
newer_some target now newer =
    among_values as_dependency (λ (d : Dependency). IsAfter d.stamp target) newer.dependency now.dependencies.items newer.stands newer.is_after

-- what is found over the dependencies tells whether one is newer
pub answers_newer : (target : Option ℕ) (now : PlainRecord) (all : List PlainDependency) (b : Bool) → all ≡ now.dependencies.items →
    IsTrue b ↔ Any (λ (d : PlainDependency). IsAfter d.stamp target) all → IsTrue b ↔ HasNewer target (as_record now)
answers_newer target now all b same says =
    let here : IsTrue b ↔ Any (λ (d : PlainDependency). IsAfter d.stamp target) now.dependencies.items =
    subst (λ (l : List PlainDependency). IsTrue b ↔ Any (λ (d : PlainDependency). IsAfter d.stamp target) l) same says in
    (λ yes. some_newer target now (here.0 yes), λ newer. here.1 (newer_some target now newer))

module _ (decider : Decider) (target : Option ℕ) (now : Record) where
  by_no_file : (c : Content) (old : Option Record) → c ≡ None → IsDueBy decider target now c old
  by_no_file c old e = subst (λ (x : Content). IsDueBy decider target now x old) (sym e) tt

  by_no_record : (c : Content) (old : Option Record) → old ≡ None → IsDueBy decider target now c old
  by_no_record None old e = tt
  by_no_record (Some bytes) old e = subst (λ (x : Option Record). IsDueBy decider target now (Some bytes) x) (sym e) tt

  by_change : (c : Content) (old : Option Record) (r : Record) → old ≡ Some r → HasChanged decider target r now → IsDueBy decider target now c old
  by_change None old r e h = tt
  by_change (Some bytes) old r e h = subst (λ (x : Option Record). IsDueBy decider target now (Some bytes) x) (sym e) h

true_false : {A : Type 0} {b : Bool} → b ≡ true → b ≡ false → A
true_false {b = b} on off = let x : true ≡ false = sym on ∙ off in cc x

module _ (t : Tree) (stamps : Stamps) (m : Records) (r : Rule) (now : Record) where
  due_at : (p : Path) → Among p r.targets → (c : Content) (old : Option Record) → t p ≡ c → m p ≡ old →
      IsDueBy r.decider (first_stamp stamps r.targets) now c old → IsDue t stamps m r now
  due_at p at None old e f h = IsDue.no_file p at e
  due_at p at (Some bytes) None e f h = IsDue.no_record p at f
  due_at p at (Some bytes) (Some old) e f h = IsDue.has_changed p old at f h

  pub some_due : Any (IsDueAt r.decider (first_stamp stamps r.targets) t m now) r.targets → IsDue t stamps m r now
  some_due any =
      let h = some_among (IsDueAt r.decider (first_stamp stamps r.targets) t m now) r.targets any in
      due_at h.0 h.1.0 (t h.0) (m h.0) refl refl h.1.1

  pub due_some : r.always ≡ false → IsDue t stamps m r now → Any (IsDueAt r.decider (first_stamp stamps r.targets) t m now) r.targets
  due_some off (IsDue.is_always on) = true_false on off
  due_some off (IsDue.no_file p at e) =
      among_some (IsDueAt r.decider (first_stamp stamps r.targets) t m now) p r.targets at
      (by_no_file r.decider (first_stamp stamps r.targets) now (t p) (m p) e)
  due_some off (IsDue.no_record p at e) =
      among_some (IsDueAt r.decider (first_stamp stamps r.targets) t m now) p r.targets at
      (by_no_record r.decider (first_stamp stamps r.targets) now (t p) (m p) e)
  due_some off (IsDue.has_changed p old at e h) =
      among_some (IsDueAt r.decider (first_stamp stamps r.targets) t m now) p r.targets at
      (by_change r.decider (first_stamp stamps r.targets) now (t p) (m p) old e h)

  -- what is found over the targets tells whether the rule is due, where it isn't always carried out
  pub answers_due : (targets : List Path) (stamp : Option ℕ) (b : Bool) → targets ≡ r.targets → stamp ≡ first_stamp stamps targets →
      IsTrue b ↔ Any (IsDueAt r.decider stamp t m now) targets → r.always ≡ false → IsTrue b ↔ IsDue t stamps m r now
  answers_due targets stamp b same is says off =
      let here : IsTrue b ↔ Any (IsDueAt r.decider (first_stamp stamps r.targets) t m now) r.targets =
      subst (λ (l : List Path). IsTrue b ↔ Any (IsDueAt r.decider (first_stamp stamps l) t m now) l) same
      (subst (λ (s : Option ℕ). IsTrue b ↔ Any (IsDueAt r.decider s t m now) targets) is says) in
      (λ yes. some_due (here.0 yes), λ due. here.1 (due_some off due))

module _ (t : Tree) (m : Records) (r : Rule) (now : Record) where
  stale_at : (p : Path) → Among p r.targets → (c : Content) (old : Option Record) → t p ≡ c → m p ≡ old →
      IsDueBy content None now c old → IsStale t m r now
  stale_at p at None old e f h = IsStale.no_file p at e
  stale_at p at (Some bytes) None e f h = IsStale.no_record p at f
  stale_at p at (Some bytes) (Some old) e f h = IsStale.other_record p old at f h

  pub some_stale : Any (IsDueAt content None t m now) r.targets → IsStale t m r now
  some_stale any =
      let h = some_among (IsDueAt content None t m now) r.targets any in
      stale_at h.0 h.1.0 (t h.0) (m h.0) refl refl h.1.1

  pub stale_some : r.always ≡ false → IsStale t m r now → Any (IsDueAt content None t m now) r.targets
  stale_some off (IsStale.is_always on) = true_false on off
  stale_some off (IsStale.no_file p at e) =
      among_some (IsDueAt content None t m now) p r.targets at (by_no_file content None now (t p) (m p) e)
  stale_some off (IsStale.no_record p at e) =
      among_some (IsDueAt content None t m now) p r.targets at (by_no_record content None now (t p) (m p) e)
  stale_some off (IsStale.other_record p old at e differs) =
      among_some (IsDueAt content None t m now) p r.targets at (by_change content None now (t p) (m p) old e differs)

  pub answers_stale : (targets : List Path) (b : Bool) → targets ≡ r.targets → IsTrue b ↔ Any (IsDueAt content None t m now) targets →
      r.always ≡ false → IsTrue b ↔ IsStale t m r now
  answers_stale targets b same says off =
      let here : IsTrue b ↔ Any (IsDueAt content None t m now) r.targets =
      subst (λ (l : List Path). IsTrue b ↔ Any (IsDueAt content None t m now) l) same says in
      (λ yes. some_stale (here.0 yes), λ stale. here.1 (stale_some off stale))
