-- Whether a rule is due by the files around is whether it is so by the files as they are looked at.
use Rattle.std.proofs.Common.{◌≡◌, ◌≢◌, ◌∙◌, ◌||◌, ℕ, Bool, true, false, List, [], ◌∷◌, ◌++◌, Some, None, refl, sym, subst, ap, option_map}
use Rattle.std.specs.Prelude.{Result, Ok, Err, OnOk, if◌then◌else◌, slice_set}
use Rattle.std.specs.List.{list_any}
use Rattle.std.specs.Str.{bytes_eq}
use Rattle.scons_base.specs.declared.ids.NodeId.{NodeId}
use Rattle.scons_base.specs.declared.ids.RuleId.{RuleId}
use Rattle.world_api.specs.Act.{Content}
use Rattle.world_api.specs.Around.{Around}
use Rattle.world_api.specs.Calls.{Asks}
use Rattle.world_api.specs.Reads.{stamp_of}
use Rattle.deciders.specs.declared.recorded.Rec.{Rec}
use Rattle.rule_graph.specs.Graphs.{RuleGraph}
use Rattle.task_plan.specs.States.{state_of}
use Rattle.task_plan.specs.Orders.{is_among}
use Rattle.task_plan.specs.Plans.{Planned}
use Rattle.task_plan.specs.Settled.{deps_of}
use Rattle.task_plan.specs.declared.states.RuleState.TheVariants.{Unneeded}
use Rattle.build_model.specs.Rules.{Path, Tree, Stamps, Rule, Record, Records, Setting, Among}
use Rattle.build_model.specs.Contents.{in_tree, dependencies}
use Rattle.build_model.specs.Records.{record_of}
use Rattle.build_model.specs.Steps.{IsMissing}
use Rattle.build_model.proofs.Lists.{among_same}
use Rattle.build_means.specs.Due.{is_due}
use Rattle.build_means.specs.Grown.{Begun, begun_setting, rule_numbered}
use Rattle.build_means.specs.Present.{record_over, IsPresent}
use Rattle.build_means.specs.Records.{record_in, HasOwnDigests}
use Rattle.build_means.specs.Rules.{paths_of}
use Rattle.build_files.specs.Kept.{past, stamp_past, AreTrue}
use Rattle.build_files.specs.Marked.{KeepsMarks}
use Rattle.build_files.specs.Presence.{AreStill, IsPresentAs, IsPresentFor}
use Rattle.build_files.specs.declared.record.Present.{Present}
use Rattle.build_files.specs.declared.record.Present.TheVariants as shape
use Rattle.build_files.specs.declared.inputs.Inputs.{Inputs}
use Rattle.build_files.proofs.Marking.{over_same}
use Rattle.plan_means.proofs.Knowing.{Knows}
use Rattle.turn_means.proofs.Deciding.{due_agrees}
use Rattle.scons_report.specs.Overs.{needs_over, IsReadyToList, is_fed_by, AreListed, Lists}
use Rattle.scons_report.specs.declared.dry.Listed.{Listed}
use Rattle.scons_report.proofs.Going.{none_runs, gone_same, past_same}
use Rattle.scons_report.proofs.Finished.{kn, deps_are, target_rule}
use Rattle.scons_report.proofs.Listing.{lists_next}

-- stamps are as they were behind a look
pub stamp_same : (gone : List Path) (old new : Around) → old.running ≡ [] → Asks old new → (path : Path) → stamp_past gone new path ≡ stamp_past gone old path
stamp_same gone old new idle asks path =
    ap (λ (c : Content). if list_any (bytes_eq path) gone then None else option_map (λ (bytes : List ℕ). new.stamps path) c)
    (asks.files path (none_runs old idle path))
    ∙ ap (λ (n : ℕ). if list_any (bytes_eq path) gone then None else option_map (λ (bytes : List ℕ). n) (old.tree path))
    (asks.stamps path (none_runs old idle path))

module _ (b : Begun) (requested : List NodeId) (t : Tree) (stamps : Stamps) (g : RuleGraph) (inputs : Inputs) (plan : Planned) (around : Around)
    (is : IsReadyToList b requested t stamps g inputs plan around) where
  pub still_all : (nodes : List NodeId) → AreStill g around nodes
  still_all nodes node m path at = none_runs around is.over.idle path

  -- rules stay ready behind a look
  pub ready_on : (later : Inputs) (new : Around) → Asks around new → later.gone ≡ inputs.gone → AreTrue b g later new → KeepsMarks g inputs g later →
      IsReadyToList b requested t stamps g later plan new
  ready_on later new asks gone truth marks = record {
    over = record {
      made = is.over.made;
      now = is.over.now;
      truth = truth;
      looked = over_same g inputs later marks is.over.looked;
      idle = asks.running ∙ is.over.idle;
      files = λ path. gone_same inputs later new.tree path gone ∙ past_same inputs.gone.keys around new is.over.idle asks path ∙ is.over.files path;
      ties = is.over.ties;
      order = is.over.order;
      goes = is.over.goes;
      well = is.over.well;
    };
    finished = is.finished;
    times = λ path.
        ap (λ gone. stamp_past gone.keys new path) gone ∙ stamp_same inputs.gone.keys around new is.over.idle asks path ∙ is.times path;
    targets = λ path r e. ap (λ gone. list_any (bytes_eq path) gone.keys) gone ∙ is.targets path r e;
  }

  files_same : past inputs.gone.keys around.tree ≡ t
  files_same = (λ i. λ path. is.over.files path i)

  times_same : stamp_past inputs.gone.keys around ≡ stamps
  times_same = (λ i. λ path. is.times path i)

  module _ (rule : RuleId) (needed : state_of plan.states rule.0 ≢ Unneeded) where
    abbrev k : Knows b g plan rule.0
    k = kn b requested t g inputs plan around is.over is.finished rule.0 needed

    abbrev s : Setting
    s = begun_setting b

    abbrev deps : List NodeId
    deps = deps_of plan.rules rule.0

    deps_here : paths_of g deps ≡ dependencies s (in_tree t) k.rule
    deps_here = deps_are b requested t g inputs plan around is.over is.finished rule.0 needed

    module _ (rec : Rec) (present : IsPresent b k.rule (paths_of g deps) (past inputs.gone.keys around.tree) (stamp_past inputs.gone.keys around) rec) where
      pub record_is : record_in rec ≡ record_of s k.rule (in_tree t) stamps
      record_is =
          present.is ∙ ap (λ (u : Tree). record_over s k.rule (paths_of g deps) u (stamp_past inputs.gone.keys around)) files_same
          ∙ ap (λ (u : Stamps). record_over s k.rule (paths_of g deps) t u) times_same
          ∙ ap (λ (ps : List Path). record_over s k.rule ps t stamps) deps_here

      pub targets_are : rec.targets ≡ k.rule.targets
      targets_are = ap (λ (r : Record). r.targets) record_is

      pub lacks_none : (p : Path) → Among p (dependencies s (in_tree t) k.rule) → IsMissing s t p → ⊥
      lacks_none p m missing =
          present.there p (among_same (sym deps_here) m) (record { no_rule = missing.no_rule; no_file = is.over.files p ∙ missing.no_file })

      -- no target is looked past
      target_here : (p : Path) → Among p k.rule.targets → list_any (bytes_eq p) inputs.gone.keys ≡ false
      target_here p m = is.targets p k.rule (target_rule b requested t g inputs plan around is.over is.finished rule.0 needed p m)

      module _ (new : Around) (asks : Asks around new) (m : Records) where
        pub due_is : is_due k.rule new.tree (stamp_of new) m (record_in rec) ≡ s.is_due k.rule t stamps m (record_of s k.rule (in_tree t) stamps)
        due_is =
            due_agrees k.rule new.tree t (stamp_of new) stamps m m (record_in rec)
            (λ p n.
            sym (ap (λ c. if c then None else new.tree p) (target_here p n))
            ∙ past_same inputs.gone.keys around new is.over.idle asks p ∙ is.over.files p)
            (λ p n.
            sym (ap (λ c. if c then None else stamp_of new p) (target_here p n))
            ∙ stamp_same inputs.gone.keys around new is.over.idle asks p ∙ is.times p)
            (λ p n. refl)
            ∙ ap (λ (r : Record). is_due k.rule t stamps m r) record_is

        -- so it is listed where it should be
        pub judged : {T E : Type 0} (front : List RuleId) → ((other : ℕ) → is_among other (needs_over g plan rule.0) ≡ true → is_among other front ≡ true) →
            (listed after : Listed) → AreListed b t stamps m g front listed → (nodes : List NodeId) → nodes ≡ deps → (r : Result T E) →
            OnOk r (Lists listed rule after (is_fed_by g listed nodes || is_due k.rule new.tree (stamp_of new) m (record_in rec))) →
            OnOk r (AreListed b t stamps m g (front ++ rule ∷ []) after)
        judged front behind listed after are nodes same (Ok v) lists =
            lists_next b requested t stamps m g inputs plan around is rule needed front behind listed are
            (is_due k.rule new.tree (stamp_of new) m (record_in rec)) due_is lacks_none after _ refl
            (subst (λ (ns : List NodeId). Lists listed rule after (is_fed_by g listed ns || is_due k.rule new.tree (stamp_of new) m (record_in rec))) same lists)
        judged front behind listed after are nodes same (Err e) lists = tt

-- ---- whether it is listed

pub not_fed_due : (fed found due : Bool) → false ≡ fed → found ≡ due → found ≡ (fed || due)
not_fed_due fed found due none same = same ∙ ap (λ c. c || due) none

lists_by : (old new : Listed) (rule : RuleId) (c due : Bool) → c ≡ due → Lists old rule new c → Lists old rule new due
lists_by old new rule c due same lists = subst (λ (x : Bool). Lists old rule new x) same lists

pub lists_yes : (old new : Listed) (rule : RuleId) (found due : Bool) → found ≡ due → found ≡ true →
    new.is_listed.items ≡ slice_set old.is_listed.items rule.0 true → new.rules.items ≡ old.rules.items ++ rule ∷ [] → Lists old rule new due
lists_yes old new rule found due same so marks rules = lists_by old new rule true due (sym so ∙ same) (marks, rules)

pub lists_no : (old : Listed) (rule : RuleId) (found due : Bool) → found ≡ due → found ≡ false → Lists old rule old due
lists_no old rule found due same never = lists_by old old rule false due (sym never ∙ same) refl

-- what was read of a rule is this record
pub present_is : (g : RuleGraph) (number : ℕ) (nodes listed : List NodeId) (gone : List Path) (around : Around) (b : Begun) (found : Present) (rec : Rec) →
    nodes ≡ listed → found ≡ shape.Record rec → IsPresentFor g number nodes gone around b found → (r : Rule) → rule_numbered b g number ≡ Some r →
    IsPresent b r (paths_of g listed) (past gone around.tree) (stamp_past gone around) rec × HasOwnDigests rec
present_is g number nodes listed gone around b found rec list same is r e =
    subst (λ (ns : List NodeId). IsPresentAs b g r ns (past gone around.tree) (stamp_past gone around) (shape.Record rec)) list
    (subst (λ (x : Present). IsPresentAs b g r nodes (past gone around.tree) (stamp_past gone around) x) same (is r e))
