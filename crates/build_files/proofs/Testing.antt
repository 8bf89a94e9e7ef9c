-- The test of each target by its record is the one by which a rule is due.
use Rattle.std.proofs.Common.{◌≡◌, ◌<◌, ◌≤◌, ◌∙◌, ap, sym, refl, ℕ, ◌+◌, Bool, true, false, ◌||◌, not, List, [], ◌∷◌, length, get_or, take, Option, Some, None, IsTrue}
use Rattle.std.specs.Prelude.{◌↔◌, is_some}
use Rattle.std.specs.List.{list_any}
use Rattle.std.specs.Option.{option_map}
use Rattle.std.proofs.lemmas.Bool.Decides.{same_from_decides}
use Rattle.std.proofs.lemmas.List.{take_all}
use Rattle.std.proofs.lemmas.List.Folds.{list_any_at, list_any_more}
use Rattle.std.proofs.lemmas.Option.{slice_get-get_or}
use Rattle.deciders.specs.Changes as kept
use Rattle.deciders.specs.declared.recorded.Rec.{Rec}
use Rattle.rule_graph.specs.declared.rule.Rule as declared
use Rattle.rule_graph.specs.Graphs.{RuleGraph}
use Rattle.sign_store.specs.Tables.{Map}
use Rattle.world_api.specs.Around.{Around, IsRunningTarget}
use Rattle.world_api.specs.Calls.{Asks}
use Rattle.world_api.specs.Looks.{Looks}
use Rattle.world_api.specs.Meaning.{Meaning}
use Rattle.world_api.specs.Reads.{stamp_of}
use Rattle.world_api.specs.declared.decider.Decider.{Decider}
use Rattle.world_api.specs.declared.decider.Decider.TheVariants.{Content, Newer, Match, ContentMatch}
use Rattle.build_model.specs.Rules as model
use Rattle.build_model.specs.Rules.{Path, Rule, Record}
use Rattle.build_model.specs.Stale.{first_stamp}
use Rattle.build_means.specs.Due.{has_changed, is_due_for, is_due}
use Rattle.build_means.specs.Records.{record_in, records_in, HasOwnDigests}
use Rattle.build_means.specs.Rules.{decider_of}
use Rattle.build_means.proofs.Lists.{true_false, or_first, or_second, at_place}
use Rattle.build_means.proofs.Recording.{changed_alike}
use Rattle.build_means.proofs.Testing.{changed_decides}
use Rattle.build_files.specs.Dueness.{made_by, AreIdle}
use Rattle.build_files.specs.Leftovers.{stands}
use Rattle.build_files.proofs.RuleAt.{IsOfRule}

-- a record has changed by the model's test where it has by its decider
pub changed_same : (d : Decider) (made : Option ℕ) (old now : Rec) (changed : Bool) → HasOwnDigests old → HasOwnDigests now
    → (IsTrue changed ↔ kept.HasChanged d old now made) → changed ≡ has_changed (decider_of d) made (record_in old) (record_in now)
changed_same d made old now changed f g is =
    let alike = changed_alike made old now f g d in
    same_from_decides changed (has_changed (decider_of d) made (record_in old) (record_in now)) (λ e. alike.0 (is.0 e), λ h. is.1 (alike.1 h))
    (changed_decides (decider_of d) made (record_in old) (record_in now))

-- the stamp of the first target tells only where the decider goes by it
made_same : (d : Decider) (made : Option ℕ) (now : Record) (c : model.Content) (o : Option Record)
    → is_due_for (decider_of d) (made_by d made) now c o ≡ is_due_for (decider_of d) made now c o
made_same d made now None o = refl
made_same d made now (Some bytes) None = refl
made_same Content made now (Some bytes) (Some old) = refl
made_same Newer made now (Some bytes) (Some old) = refl
made_same Match made now (Some bytes) (Some old) = refl
made_same ContentMatch made now (Some bytes) (Some old) = refl

-- the stamp of a target that no job writes is the same after a look
first_same : (old new : Around) (paths : List Path) → AreIdle old paths → Asks old new → first_stamp (stamp_of new) paths ≡ first_stamp (stamp_of old) paths
first_same old new [] idle asks = refl
first_same old new (p ∷ paths) idle asks =
    let free = idle p model.here in
    ap (option_map (λ bytes. new.stamps p)) (asks.files p free) ∙ ap (λ (t : ℕ). option_map (λ bytes. t) (old.tree p)) (asks.stamps p free)

-- so what was found of it is as it was
pub first_made : {W : Type 0} (m : Meaning W) (old new : W) (d : Decider) (made : Option ℕ) (items targets : List Path) → Looks m old new → m.tells new → AreIdle (m.around old) targets
    → items ≡ targets → made ≡ made_by d (first_stamp (stamp_of (m.around new)) items) → made ≡ made_by d (first_stamp (stamp_of (m.around old)) targets)
first_made m old new d made items targets looks told idle same is =
    is ∙ ap (λ (ps : List Path). made_by d (first_stamp (stamp_of (m.around new)) ps)) same
    ∙ ap (made_by d) (first_same (m.around old) (m.around new) targets idle (looks.around told))

no_content : (c : model.Content) → is_some c ≡ false → c ≡ None
no_content None e = refl
no_content (Some bytes) e = true_false e

pub place_free : (old : Around) (paths : List Path) (i : ℕ) (p : Path) → AreIdle old paths → i < length paths → p ≡ get_or paths i p → IsRunningTarget old.running p → ⊥
place_free old paths i p idle within at = idle p (at_place paths i (slice_get-get_or paths i p within ∙ ap Some (sym at)))

-- the test of a target
abbrev pub test : Decider → Option ℕ → Rec → Map → Around → Path → Bool
test d made now kept around p = is_due_for (decider_of d) made (record_in now) (around.tree p) (records_in kept p)

module _ (d : Decider) (made : Option ℕ) (now : Rec) (kept : Map) (old new : Around) (i : ℕ) (p : Path) (idle : AreIdle old now.targets) (asks : Asks old new)
    (within : i < length now.targets) (at : p ≡ get_or now.targets i p) where
  stood : (is : Bool) → is ≡ stands new p → is_some (old.tree p) ≡ is
  stood is same = ap is_some (sym (asks.files p (place_free old now.targets i p idle within at))) ∙ sym same

  -- a target that is no file makes its rule due
  pub test_none : (is : Bool) → is ≡ stands new p → is ≡ false → test d made now kept old p ≡ true
  test_none is same none = ap (λ c. is_due_for (decider_of d) made (record_in now) c (records_in kept p)) (no_content (old.tree p) (stood is same ∙ none))

  test_by : (c : model.Content) (has due : Bool) → is_some c ≡ true → has ≡ due → ((bytes : List ℕ) → has ≡ not (is_due_for (decider_of d) made (record_in now) (Some bytes) (records_in kept p)))
      → not has ≡ is_due_for (decider_of d) made (record_in now) c (records_in kept p)
  test_by None has due some same by = true_false (sym some)
  test_by (Some bytes) has due some same by = ap not (by bytes) ∙ twice (is_due_for (decider_of d) made (record_in now) (Some bytes) (records_in kept p))
    where
      twice : (b : Bool) → not (not b) ≡ b
      twice true = refl
      twice false = refl

  -- one that is a file does where it has no record that hasn't changed
  pub test_some : (is has : Bool) → is ≡ stands new p → is ≡ true
      → ((bytes : List ℕ) → has ≡ not (is_due_for (decider_of d) made (record_in now) (Some bytes) (records_in kept p))) → test d made now kept old p ≡ not has
  test_some is has same some by = sym (test_by (old.tree p) has has (stood is same ∙ some) refl by)

  pub tests_more : list_any (test d made now kept old) (take i now.targets) ≡ false → test d made now kept old p ≡ false
      → list_any (test d made now kept old) (take (i + 1) now.targets) ≡ false
  tests_more before this =
      list_any_more (test d made now kept old) now.targets i p within
      ∙ ap (λ c. c || test d made now kept old (get_or now.targets i p)) before
      ∙ ap (test d made now kept old) (sym at) ∙ this

-- so a rule is due where it is always built, or a target makes it so
module _ (g : RuleGraph) (x : declared.Rule) (r : Rule) (now : Rec) (kept : Map) (around : Around) (of : IsOfRule g x r) (targets : now.targets ≡ r.targets) where
  tests_same : list_any (test x.decider (made_by x.decider (first_stamp (stamp_of around) now.targets)) now kept around) now.targets
      ≡ list_any (test x.decider (first_stamp (stamp_of around) now.targets) now kept around) now.targets
  tests_same = λ i. list_any (λ p. made_same x.decider (first_stamp (stamp_of around) now.targets) (record_in now) (around.tree p) (records_in kept p) i) now.targets

  due_is : (made : Option ℕ) → made ≡ made_by x.decider (first_stamp (stamp_of around) now.targets)
      → is_due r around.tree (stamp_of around) (records_in kept) (record_in now) ≡ (x.always || list_any (test x.decider made now kept around) now.targets)
  unfolding is_due
  due_is made same =
      ap (λ always. always || list_any (λ p. is_due_for r.decider (first_stamp (stamp_of around) r.targets) (record_in now) (around.tree p) (records_in kept p)) r.targets) of.always
      ∙ ap (λ d. x.always || list_any (λ p. is_due_for d (first_stamp (stamp_of around) r.targets) (record_in now) (around.tree p) (records_in kept p)) r.targets) of.decider
      ∙ ap (λ (ps : List Path). x.always || list_any (λ p. is_due_for (decider_of x.decider) (first_stamp (stamp_of around) ps) (record_in now) (around.tree p) (records_in kept p)) ps) (sym targets)
      ∙ ap (λ c. x.always || c) (sym tests_same)
      ∙ ap (λ (m : Option ℕ). x.always || list_any (test x.decider m now kept around) now.targets) (sym same)

  pub due_always : x.always ≡ true → true ≡ is_due r around.tree (stamp_of around) (records_in kept) (record_in now)
  due_always always =
      let made = made_by x.decider (first_stamp (stamp_of around) now.targets) in
      sym (due_is made refl ∙ or_first x.always (list_any (test x.decider made now kept around) now.targets) always)

  pub due_by : (made : Option ℕ) (i : ℕ) (p : Path) → made ≡ made_by x.decider (first_stamp (stamp_of around) now.targets) → i < length now.targets → p ≡ get_or now.targets i p
      → test x.decider made now kept around p ≡ true → true ≡ is_due r around.tree (stamp_of around) (records_in kept) (record_in now)
  due_by made i p same within at due =
      sym (due_is made same ∙ or_second x.always (list_any (test x.decider made now kept around) now.targets)
      (list_any_at (test x.decider made now kept around) now.targets i p within (ap (test x.decider made now kept around) (sym at) ∙ due)))

  pub not_due : (made : Option ℕ) (i : ℕ) → made ≡ made_by x.decider (first_stamp (stamp_of around) now.targets) → x.always ≡ false → length now.targets ≤ i
      → list_any (test x.decider made now kept around) (take i now.targets) ≡ false → false ≡ is_due r around.tree (stamp_of around) (records_in kept) (record_in now)
  not_due made i same always le none =
      sym (due_is made same ∙ ap (λ c. c || list_any (test x.decider made now kept around) now.targets) always
      ∙ ap (list_any (test x.decider made now kept around)) (sym (take_all i now.targets le)) ∙ none)
